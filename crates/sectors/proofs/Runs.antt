-- A run of one track, step by step: what the loops that read and write share.
use mathlib.Core.Path.{◌≡◌, sym}
use mathlib.Core.Option.{none, some}
use mathlib.Core.List.{List, [], ◌++◌}
use Prim.Native.Nat.{ℕ, suc, ◌+◌, ◌-◌, ◌*◌, ◌≤◌, ◌<◌}
use native.Mathlib.Omega.{arith}
use native.Mathlib.Nat.{zero-mul, suc-mul}
use native.Mathlib.Numerals.{add-one}
use lib.ListN.{length, take, drop, replicate, length-replicate, get_or-replicate}
use Rattle.std.specs.declared.option.Option.TheVariants.{None}
use Rattle.base.specs.First.{first_from, first_below}
use Rattle.base.proofs.Parts.{cell_in}
use Rattle.geometry.specs.declared.params.Params.{Params}
use Rattle.geometry.specs.Params.{Within, track_size}
use Rattle.track.specs.Image.{slot_data, with_data}
use Rattle.track.specs.Find.{slot_used}
use Rattle.track.specs.Search.{Note, note_of, Noted}
use Rattle.track.proofs.Laws.{Found}
use Rattle.sectors.specs.Run.{on_slot, run_done, run_read, run_written}

-- what read_run and write_run require: a whole track, m sectors from s on, and `area` for their bytes
abbrev pub MayRun : Params → (m s : ℕ) → (bytes area : List ℕ) → Type 0
MayRun p m s bytes area = Within p × (length bytes ≡ track_size p) × (s + m ≤ p.sectors) × (length area ≡ m * p.size)

-- ---- one step of a run
module _ (p : Params) (m s : ℕ) (bytes : List ℕ) where
  pub done_none : slot_used p s bytes ≡ none → run_done p (suc m) s bytes ≡ 0
  unfolding run_done on_slot
  done_none e = rw e

  pub done_some : (k : ℕ) → slot_used p s bytes ≡ some k → run_done p (suc m) s bytes ≡ suc (run_done p m (suc s) bytes)
  unfolding run_done on_slot
  done_some k e = rw e

  pub read_none : slot_used p s bytes ≡ none → run_read p (suc m) s bytes ≡ []
  unfolding run_read on_slot
  read_none e = rw e

  pub read_some : (k : ℕ) → slot_used p s bytes ≡ some k → run_read p (suc m) s bytes ≡ slot_data p k bytes ++ run_read p m (suc s) bytes
  unfolding run_read on_slot
  read_some k e = rw e

  pub written_none : (given : List ℕ) → slot_used p s bytes ≡ none → run_written p (suc m) s given bytes ≡ bytes
  unfolding run_written on_slot
  written_none given e = rw e

  pub written_some : (given : List ℕ) (k : ℕ) → slot_used p s bytes ≡ some k
      → run_written p (suc m) s given bytes ≡ run_written p m (suc s) (drop p.size given) (with_data p k (take p.size given) bytes)
  unfolding run_written on_slot
  written_some given k e = rw e

-- ---- either loop: the sectors before q are done, and what is left, counted from here, gives the whole
pub record Upto (p : Params) (m s : ℕ) (bytes : List ℕ) (slots : List Note) (looked at q : ℕ) : Type 0 where
  pub from : s ≤ q
  pub most : q ≤ s + m
  pub place : at ≡ (q - s) * p.size
  pub long : length slots ≡ 32
  pub seen : looked ≤ p.sectors
  pub noted : Noted p bytes slots looked
  pub done : run_done p m s bytes ≡ q - s + run_done p (s + m - q) q bytes

-- the rest is one sector, and then the rest
pub left_next : (e q : ℕ) → q < e → e - q ≡ suc (e - (q + 1))
left_next e q l = omega arith

-- at first all is left
pub left_all : (m s : ℕ) → s + m - s ≡ m
left_all m s = omega arith

module _ (p : Params) (m s : ℕ) (bytes : List ℕ) where
  -- none is noted at first
  noted_none : Noted p bytes (replicate 32 None) 0
  unfolding Noted note_of first_below first_from
  noted_none t h = get_or-replicate 32 t None None h

  pub upto_none : Upto p m s bytes (replicate 32 None) 0 0 s
  upto_none =
      let none : s - s ≡ 0 = omega arith in
      record {
        from = omega arith;
        most = omega arith;
        place = rw none (sym (zero-mul p.size));
        long = length-replicate {A = Note} 32 None;
        seen = omega arith;
        noted = noted_none;
        done = rw (none, left_all m s) (omega arith);
      }

  module _ (slots : List Note) (looked at q : ℕ) (u : Upto p m s bytes slots looked at q) where
    pub upto_room : q < s + m → at + p.size ≤ m * p.size
    upto_room l = omega (arith, u.place, cell_in p.size (q - s) m (omega (arith, u.from)))

    pub upto_all : s + m ≤ q → m ≡ run_done p m s bytes
    unfolding run_done
    upto_all l =
        let none : s + m - q ≡ 0 = omega arith in
        let d : run_done p m s bytes ≡ q - s + 0 = rw none at u.done in
        omega (arith, u.most)

    module _ (l : q < s + m) where
      pub upto_stop : slot_used p q bytes ≡ none → q - s ≡ run_done p m s bytes
      upto_stop e =
          let step : run_done p (s + m - q) q bytes ≡ 0 = rw (left_next (s + m) q l) (done_none p (s + m - (q + 1)) q bytes e) in
          omega (arith, u.done)

      pub upto_more : (now : List Note) (seen k : ℕ) → Found p bytes now seen q → slot_used p q bytes ≡ some k
          → Upto p m s bytes now seen (at + p.size) (q + 1)
      upto_more now seen k f e =
          let step : run_done p (s + m - q) q bytes ≡ suc (run_done p (s + m - (q + 1)) (q + 1) bytes) =
          rw (left_next (s + m) q l) (rw (← add-one q) at (done_some p (s + m - (q + 1)) q bytes k e)) in
          let one : q + 1 - s ≡ suc (q - s) = omega (arith, u.from) in
          record {
            from = omega (arith, u.from);
            most = omega arith;
            place = rw (one, suc-mul) (omega (arith, u.place));
            long = f.0;
            seen = f.1;
            noted = f.2;
            done = omega (arith, u.done);
          }
