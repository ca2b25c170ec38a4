-- The loop that reads a run of one track.
use mathlib.Core.Path.{◌≡◌, refl, sym, ap, ◌∙◌}
use mathlib.Core.List.{List, [], ◌++◌, append_assoc, append-nil}
use Prim.Native.Nat.{ℕ, ◌+◌, ◌-◌, ◌≤◌, ◌<◌}
use native.Mathlib.Omega.{arith}
use native.Mathlib.Numerals.{add-one}
use lib.ListN.{length, get_or, replicate, length-append}
use borrow.Rule.Slice.PartMut.{put_mid}
use Rattle.std.specs.declared.option.Option.TheVariants.{None, Some}
use Rattle.base.specs.Part.{splice}
use Rattle.base.proofs.Parts.{length_splice, splice_lent, splice_on}
use Rattle.geometry.specs.declared.params.Params.{Params}
use Rattle.track.specs.Image.{slot_data}
use Rattle.track.proofs.Laws.{length_data, Found, slot_none, slot_some, slot_in}
use Rattle.track.specs.Search.{Note}
use Rattle.sectors.specs.Run.{run_done, run_read}
use Rattle.sectors.proofs.Runs.{MayRun, Upto, read_none, read_some, left_next, left_all, upto_none, upto_all, upto_room, upto_stop, upto_more}

-- ---- the loop that reads: `handed` stands in the places, and with what is left, read from here, it is the whole
pub record Reading (p : Params) (m s : ℕ) (bytes places₀ places : List ℕ) (slots : List Note) (looked at q : ℕ) : Type 0 where
  pub upto : Upto p m s bytes slots looked at q
  pub len : length places ≡ length places₀
  pub handed : List ℕ
  pub filled : length handed ≡ at
  pub is : places ≡ splice 0 handed places₀
  pub rest : run_read p m s bytes ≡ handed ++ run_read p (s + m - q) q bytes

-- what read_run ensures
abbrev RunHasRead : Params → (m s : ℕ) → (bytes places₀ places : List ℕ) → (r : ℕ) → Type 0
RunHasRead p m s bytes places₀ places r = (r ≡ run_done p m s bytes) × (places ≡ splice 0 (run_read p m s bytes) places₀)

module _ (p : Params) (m s : ℕ) (bytes places₀ : List ℕ) where
  pub reading_none : Reading p m s bytes places₀ places₀ (replicate 32 None) 0 0 s
  unfolding splice
  reading_none = record {
    upto = upto_none p m s bytes;
    len = refl;
    handed = [];
    filled = refl;
    is = refl;
    rest = rw (left_all m s) refl;
  }

  module _ (places : List ℕ) (slots : List Note) (looked at q : ℕ) (w : Reading p m s bytes places₀ places slots looked at q) where
    -- nothing is left
    ends : run_read p (s + m - q) q bytes ≡ [] → places ≡ splice 0 (run_read p m s bytes) places₀
    ends e = w.is ∙ ap (λ (l : List ℕ). splice 0 l places₀) (sym (w.rest ∙ ap (λ (l : List ℕ). w.handed ++ l) e ∙ append-nil w.handed))

    pub reading_all : s + m ≤ q → RunHasRead p m s bytes places₀ places m
    unfolding run_read
    reading_all l =
        let none : s + m - q ≡ 0 = omega arith in
        (upto_all p m s bytes slots looked at q w.upto l, ends (rw none refl))

    module _ (may : MayRun p m s bytes places₀) (l : q < s + m) where
      pub reading_room : at + p.size ≤ length places
      reading_room = omega (arith, may.3, w.len, upto_room p m s bytes slots looked at q w.upto l)

      -- sector q was looked for
      module _ (now : List Note) (seen : ℕ) (f : Found p bytes now seen q) where
        pub reading_stop : get_or now q None ≡ None → RunHasRead p m s bytes places₀ places (q - s)
        reading_stop z =
            let e = slot_none p bytes now seen q f z in
            (upto_stop p m s bytes slots looked at q w.upto l e, ends (rw (left_next (s + m) q l) (read_none p (s + m - (q + 1)) q bytes e)))

        module _ (k : ℕ) (n : get_or now q None ≡ Some k) where
          pub reading_slot : k < p.sectors
          reading_slot = slot_in p bytes now seen q f k n

          pub reading_more : (copied after : List ℕ) → copied ≡ slot_data p k bytes → after ≡ copied
              → Reading p m s bytes places₀ (put_mid at (at + p.size - at) places after) now seen (at + p.size) (q + 1)
          reading_more copied after ec ea =
              let e = slot_some p bytes now seen q f k n in
              let is : after ≡ slot_data p k bytes = ea ∙ ec in
              let la : length after ≡ p.size = ap length is ∙ length_data p bytes may.1 k reading_slot in
              let further = run_read p (s + m - (q + 1)) (q + 1) bytes in
              let step : run_read p (s + m - q) q bytes ≡ slot_data p k bytes ++ further =
              rw (left_next (s + m) q l) (rw (← add-one q) at (read_some p (s + m - (q + 1)) q bytes k e)) in
              let lent : put_mid at (at + p.size - at) places after ≡ splice at after places =
              splice_lent at (at + p.size) places after (omega arith) in
              record {
                upto = upto_more p m s bytes slots looked at q w.upto l now seen k f e;
                len = ap length lent ∙ length_splice at after places (omega (arith, reading_room)) ∙ w.len;
                handed = w.handed ++ after;
                filled = length-append w.handed after ∙ omega (arith, w.filled);
                is = lent ∙ ap (splice at after) w.is ∙ splice_on w.handed after places₀ at w.filled;
                rest = w.rest ∙ ap (λ (x : List ℕ). w.handed ++ x) (step ∙ ap (λ (x : List ℕ). x ++ further) (sym is))
                    ∙ sym (append_assoc w.handed after further);
              }
