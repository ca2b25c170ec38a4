-- An interrupted move: either A's slot 0 is not written yet, or B is whole and A's slot 0 says so.
use mathlib.Core.Path.{◌≡◌, sym, ap, ◌∙◌}
use mathlib.Core.Logic.{◌⊎◌, inl, inr}
use mathlib.Core.Bool.{true, false≢true}
use mathlib.Core.List.{List}
use Prim.Native.Nat.{ℕ, suc, ◌+◌, ◌-◌, ◌*◌, ◌<◌}
use native.Mathlib.Omega.{arith}
use native.Mathlib.Decide.{dec_lt}
use lib.ListN.{length}
use Rattle.geometry.specs.declared.params.Params.{Params}
use Rattle.geometry.specs.declared.params.Track.{Track}
use Rattle.track.specs.Image.{Fits}
use Rattle.keeping.specs.Keep.{Write, Id, Body, after_write, write_of, after_writes, Mapped, Keepable}
use Rattle.keeping.specs.Power.{may_tear, new_bytes, with_bytes, Cut, unbegun, finished, torn, Interrupted}
use Rattle.keeping.proofs.Order.{halves, write_id, write_body, write_leave, writes_more, leave_more}
use Rattle.keeping.proofs.Copying.{body_length, Unmoved, unmoved_body, copied}
use Rattle.keeping.proofs.Leaving.{Left, left}

-- an ID is not torn
id_whole : (w : Write) (t : Track) (k : ℕ) (bytes : List ℕ) → w ≡ Id t k bytes → may_tear w ≡ true → ⊥
unfolding may_tear
id_whole w t k bytes e may = false≢true (sym (ap may_tear e) ∙ may)

-- data may be anything of their length
torn_body : (p : Params) (w : Write) (t : Track) (k : ℕ) (bytes any now after : List ℕ) → w ≡ Body t k bytes → length any ≡ length (new_bytes w) → after ≡ after_write p (with_bytes any w) now
    → (length any ≡ length bytes) × (after ≡ after_write p (Body t k any) now)
unfolding new_bytes with_bytes
torn_body p w t k bytes any now after e l z = (l ∙ ap (λ (v : Write). length (new_bytes v)) e, z ∙ ap (λ (v : Write). after_write p (with_bytes any v) now) e)

module _ (p : Params) (from to : Track) (map image : List ℕ) (fits : Fits p image) (maps : Mapped p.sectors map) (may : Keepable p from to image) where
  -- data under way in B's slot
  torn_copy : (now after : List ℕ) (i k : ℕ) → k < p.sectors → (i ≡ k * 2) ⊎ (i ≡ k * 2 + 1) → Unmoved p from to map image now
      → (any : List ℕ) → may_tear (write_of p from to map image i) ≡ true → length any ≡ length (new_bytes (write_of p from to map image i))
      → after ≡ after_write p (with_bytes any (write_of p from to map image i)) now → Unmoved p from to map image after
  torn_copy now after i k h (inl e) u any tear l z =
      absurd (id_whole _ _ _ _ (ap (write_of p from to map image) e ∙ write_id p from to map image k h) tear)
  torn_copy now after i k h (inr e) u any tear l z =
      let r = torn_body p _ to k _ any now after (ap (write_of p from to map image) e ∙ write_body p from to map image k h) l z in
      rw r.1 (unmoved_body p from to map image fits maps may now u k h any (r.0 ∙ body_length p from to map image fits maps may k h))

  -- a write of B's is cut short
  cut_copy : (after : List ℕ) (i : ℕ) → i < p.sectors * 2 → Cut p (write_of p from to map image i) (after_writes p from to map image i) after → Unmoved p from to map image after
  cut_copy after i h (unbegun e) = rw e (copied p from to map image fits maps may i (omega arith)).0
  cut_copy after i h (finished e) = rw (e ∙ sym (writes_more p from to map image i)) (copied p from to map image fits maps may (suc i) (omega arith)).0
  cut_copy after i h (torn any tear l z) =
      let k = halves i in
      torn_copy (after_writes p from to map image i) after i k.0 (below k.0 k.1) k.1 (copied p from to map image fits maps may i (omega arith)).0 any tear l z
    where
      below : (k : ℕ) → (i ≡ k * 2) ⊎ (i ≡ k * 2 + 1) → k < p.sectors
      below k (inl e) = omega arith
      below k (inr e) = omega arith

  -- a write of A's is: an ID is old or new as a whole
  cut_leave : (after : List ℕ) (j : ℕ) → j < p.sectors → Cut p (write_of p from to map image (p.sectors * 2 + j)) (after_writes p from to map image (p.sectors * 2 + j)) after
      → (after ≡ after_writes p from to map image (p.sectors * 2 + j)) ⊎ (after ≡ after_writes p from to map image (p.sectors * 2 + suc j))
  cut_leave after j h (unbegun e) = inl e
  cut_leave after j h (finished e) =
      inr (e ∙ ap (λ (w : Write). after_write p w (after_writes p from to map image (p.sectors * 2 + j))) (write_leave p from to map image j h) ∙ sym (leave_more p from to map image j h))
  cut_leave after j h (torn any tear l z) = absurd (id_whole _ _ _ _ (write_leave p from to map image j h) tear)

  abbrev pub LeftSome : (after : List ℕ) → Type 0
  LeftSome after = (j : ℕ) × (0 < j) × Left p from to map image after j

  left_some : (after : List ℕ) (j : ℕ) → 0 < j → j < p.sectors
      → (after ≡ after_writes p from to map image (p.sectors * 2 + j)) ⊎ (after ≡ after_writes p from to map image (p.sectors * 2 + suc j)) → LeftSome after
  left_some after j k h (inl e) = (j, k, rw e (left p from to map image fits maps may j (omega arith)))
  left_some after j k h (inr e) = (suc j, omega arith, rw e (left p from to map image fits maps may (suc j) (omega arith)))

  abbrev pub Phase : (after : List ℕ) → Type 0
  Phase after = Unmoved p from to map image after ⊎ LeftSome after

  slot_zero : (after : List ℕ) → 0 < p.sectors
      → (after ≡ after_writes p from to map image (p.sectors * 2 + 0)) ⊎ (after ≡ after_writes p from to map image (p.sectors * 2 + 1)) → Phase after
  slot_zero after h (inl e) =
      let z : p.sectors * 2 + 0 ≡ p.sectors * 2 = omega arith in
      inl (rw (e ∙ ap (after_writes p from to map image) z) (copied p from to map image fits maps may (p.sectors * 2) (omega arith)).0)
  slot_zero after h (inr e) = inr (1, omega arith, rw e (left p from to map image fits maps may 1 h))

  -- behind A's slot 0
  cut_late : (after : List ℕ) (i : ℕ) → p.sectors * 2 < i → i < p.sectors * 3 → Cut p (write_of p from to map image i) (after_writes p from to map image i) after → LeftSome after
  cut_late after i l h c =
      let j : ℕ = i - p.sectors * 2 in
      let e : i ≡ p.sectors * 2 + j = omega arith in
      left_some after j (omega arith) (omega arith) (cut_leave after j (omega arith) (rw e at c))

  pub phase : (after : List ℕ) → Interrupted p from to map image after → Phase after
  phase after x = by (dec_lt x.i (p.sectors * 2)) (dec_lt (p.sectors * 2) x.i)
    where
      by : Dec (x.i < p.sectors * 2) → Dec (p.sectors * 2 < x.i) → Phase after
      by (yes l) d = inl (cut_copy after x.i l x.cut)
      by (no l) (yes m) = inr (cut_late after x.i m x.within x.cut)
      by (no l) (no m) =
          let e : x.i ≡ p.sectors * 2 + 0 = omega arith in
          let some : 0 < p.sectors = omega (arith, fits.within.sectors_some) in
          slot_zero after some (cut_leave after 0 some (rw e at x.cut))
