-- The loop that writes a run of one track.
use mathlib.Core.Path.{◌≡◌, refl, sym, ap, ◌∙◌}
use mathlib.Core.List.{List}
use Prim.Native.Nat.{ℕ, ◌+◌, ◌-◌, ◌≤◌, ◌<◌}
use native.Mathlib.Omega.{arith}
use native.Mathlib.Numerals.{add-one}
use lib.ListN.{length, get_or, take, drop, replicate, length-take, length-drop}
use lib.Seq.{drop-drop}
use Rattle.std.specs.declared.option.Option.TheVariants.{None, Some}
use Rattle.geometry.specs.declared.params.Params.{Params}
use Rattle.geometry.specs.Params.{track_size}
use Rattle.track.specs.Image.{slot_id, with_data}
use Rattle.track.specs.Search.{Note, Noted}
use Rattle.track.proofs.Laws.{length_with_data, Found, Alike, slot_alike, noted_alike, found_alike, with_data_alike, slot_none, slot_some, slot_in}
use Rattle.sectors.specs.Run.{run_done, run_written}
use Rattle.sectors.proofs.Runs.{MayRun, Upto, written_none, written_some, left_next, left_all, upto_none, upto_all, upto_room, upto_stop, upto_more}

-- ---- the loop that writes: what is left, written from here, is the whole; slots are where they were at first
pub record Writing (p : Params) (m s : ℕ) (given track₀ track : List ℕ) (slots : List Note) (looked at q : ℕ) : Type 0 where
  pub upto : Upto p m s track₀ slots looked at q
  pub len : length track ≡ length track₀
  pub alike : Alike p track₀ track
  pub rest : run_written p (s + m - q) q (drop at given) track ≡ run_written p m s given track₀

-- what write_run ensures
abbrev RunHasWritten : Params → (m s : ℕ) → (given track₀ track : List ℕ) → (r : ℕ) → Type 0
RunHasWritten p m s given track₀ track r = (r ≡ run_done p m s track₀) × (track ≡ run_written p m s given track₀)

module _ (p : Params) (m s : ℕ) (given track₀ : List ℕ) where
  pub writing_none : Writing p m s given track₀ track₀ (replicate 32 None) 0 0 s
  writing_none = record {
    upto = upto_none p m s track₀;
    len = refl;
    alike = λ j h. refl;
    rest = rw (left_all m s) refl;
  }

  module _ (track : List ℕ) (slots : List Note) (looked at q : ℕ) (w : Writing p m s given track₀ track slots looked at q) where
    back : Alike p track track₀
    back k h = sym (w.alike k h)

    pub writing_noted : Noted p track slots looked
    writing_noted = noted_alike p track₀ track w.alike slots looked w.upto.seen w.upto.noted

    pub writing_all : s + m ≤ q → RunHasWritten p m s given track₀ track m
    unfolding run_written
    writing_all l =
        let none : s + m - q ≡ 0 = omega arith in
        (upto_all p m s track₀ slots looked at q w.upto l, rw none at w.rest)

    module _ (may : MayRun p m s track₀ given) (l : q < s + m) where
      pub writing_room : at + p.size ≤ length given
      writing_room = omega (arith, may.3, upto_room p m s track₀ slots looked at q w.upto l)

      -- sector q was looked for
      module _ (now : List Note) (seen : ℕ) (f : Found p track now seen q) where
        pub writing_stop : get_or now q None ≡ None → RunHasWritten p m s given track₀ track (q - s)
        writing_stop z =
            let e = slot_none p track now seen q f z in (
              upto_stop p m s track₀ slots looked at q w.upto l (slot_alike p track₀ track w.alike q ∙ e),
              sym (rw (left_next (s + m) q l) (written_none p (s + m - (q + 1)) q track (drop at given) e)) ∙ w.rest,
            )

        module _ (k : ℕ) (n : get_or now q None ≡ Some k) where
          pub writing_slot : k < p.sectors
          writing_slot = slot_in p track now seen q f k n

          pub writing_more : (after : List ℕ) → after ≡ with_data p k (take (at + p.size - at) (drop at given)) track
              → Writing p m s given track₀ after now seen (at + p.size) (q + 1)
          writing_more after ea =
              let e = slot_some p track now seen q f k n in
              let sector = take p.size (drop at given) in
              let wide : at + p.size - at ≡ p.size = omega arith in
              let is : after ≡ with_data p k sector track = rw wide at ea in
              let ls : length sector ≡ p.size = simp (length-take, length-drop) (omega (arith, writing_room)) in
              let long : length track ≡ track_size p = w.len ∙ may.1 in
              let step : run_written p (s + m - q) q (drop at given) track ≡ run_written p (s + m - (q + 1)) (q + 1) (drop (at + p.size) given) after =
              rw (left_next (s + m) q l, is, ← drop-drop p.size at given) (rw (← add-one q) at (written_some p (s + m - (q + 1)) q track (drop at given) k e)) in
              record {
                upto = upto_more p m s track₀ slots looked at q w.upto l now seen k (found_alike p track track₀ back now seen q f)
                    (slot_alike p track₀ track w.alike q ∙ e);
                len = ap length is ∙ length_with_data p track long k sector writing_slot ls ∙ sym may.1;
                alike = λ j h. w.alike j h ∙ with_data_alike p track long k sector writing_slot ls j h ∙ ap (slot_id p j) (sym is);
                rest = sym step ∙ w.rest;
              }
