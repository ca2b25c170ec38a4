-- The order of a move's writes.
use mathlib.Core.Path.{◌≡◌, refl, ap, ◌∙◌}
use mathlib.Core.Logic.{◌⊎◌, inl, inr}
use mathlib.Core.List.{List}
use Prim.Native.Nat.{ℕ, zero, suc, ◌+◌, ◌-◌, ◌*◌, ◌/◌, ◌%◌, ◌≤◌, ◌<◌}
use native.Mathlib.Omega.{arith}
use borrow.Author.Tests.{eq-eqb, ne_eqb, lt-ltb, le-ltb}
use Rattle.base.proofs.Decide.{pick_true, pick-false}
use Rattle.geometry.specs.declared.params.Params.{Params}
use Rattle.geometry.specs.declared.params.Track.{Track}
use Rattle.keeping.specs.Keep.{Write, copy_id, copy_body, leave_id, after_write, write_with, sectors_of, write_of, after_writes}

pub halves : (i : ℕ) → (k : ℕ) × ((i ≡ k * 2) ⊎ (i ≡ k * 2 + 1))
halves i = (i / 2, by (i % 2) refl)
  where
    by : (r : ℕ) → i % 2 ≡ r → (i ≡ i / 2 * 2) ⊎ (i ≡ i / 2 * 2 + 1)
    by zero e = inl (omega arith)
    by (suc r) e = inr (omega arith)

-- ---- which write is write i, whatever the data
module _ (p : Params) (from to : Track) (map : List ℕ) (sectors : ℕ → List ℕ) (i : ℕ) where
  pub leave_at : p.sectors * 2 ≤ i → write_with p from to map sectors i ≡ leave_id p from to map (i - p.sectors * 2)
  unfolding write_with
  leave_at h = pick-false _ _ _ (le-ltb _ _ h)

  module _ (h : i < p.sectors * 2) where
    pub id_at : i % 2 ≡ 0 → write_with p from to map sectors i ≡ copy_id p from to map (i / 2)
    unfolding write_with
    id_at r = pick_true _ _ _ (lt-ltb _ _ h) ∙ pick_true _ _ _ (eq-eqb _ _ r)

    pub body_at : (i % 2 ≡ 0 → ⊥) → write_with p from to map sectors i ≡ copy_body to map sectors (i / 2)
    unfolding write_with
    body_at r = pick_true _ _ _ (lt-ltb _ _ h) ∙ pick-false _ _ _ (ne_eqb _ _ r)

-- ---- the writes of slot k
module _ (p : Params) (from to : Track) (map image : List ℕ) (k : ℕ) (h : k < p.sectors) where
  pub write_id : write_of p from to map image (k * 2) ≡ copy_id p from to map k
  unfolding write_of
  write_id =
      let q : k * 2 / 2 ≡ k = omega arith in
      id_at p from to map _ (k * 2) (omega arith) (omega arith) ∙ ap (copy_id p from to map) q

  pub write_body : write_of p from to map image (k * 2 + 1) ≡ copy_body to map (sectors_of p from image) k
  unfolding write_of
  write_body =
      let q : (k * 2 + 1) / 2 ≡ k = omega arith in
      body_at p from to map _ (k * 2 + 1) (omega arith) (λ e. omega arith) ∙ ap (copy_body to map (sectors_of p from image)) q

  pub write_leave : write_of p from to map image (p.sectors * 2 + k) ≡ leave_id p from to map k
  unfolding write_of
  write_leave =
      let q : p.sectors * 2 + k - p.sectors * 2 ≡ k = omega arith in
      leave_at p from to map _ (p.sectors * 2 + k) (omega arith) ∙ ap (leave_id p from to map) q

pub writes_none : (p : Params) (from to : Track) (map image : List ℕ) → after_writes p from to map image 0 ≡ image
unfolding after_writes
writes_none p from to map image = refl

pub writes_more : (p : Params) (from to : Track) (map image : List ℕ) (i : ℕ)
    → after_writes p from to map image (suc i) ≡ after_write p (write_of p from to map image i) (after_writes p from to map image i)
unfolding after_writes
writes_more p from to map image i = refl

-- behind B's writes one of A's is next
pub leave_more : (p : Params) (from to : Track) (map image : List ℕ) (j : ℕ) → j < p.sectors
    → after_writes p from to map image (p.sectors * 2 + suc j) ≡ after_write p (leave_id p from to map j) (after_writes p from to map image (p.sectors * 2 + j))
leave_more p from to map image j h =
    let e : p.sectors * 2 + suc j ≡ suc (p.sectors * 2 + j) = omega arith in
    ap (after_writes p from to map image) e ∙ writes_more p from to map image (p.sectors * 2 + j)
    ∙ ap (λ (w : Write). after_write p w (after_writes p from to map image (p.sectors * 2 + j))) (write_leave p from to map image j h)

-- both writes of B's slot k
pub copy_more : (p : Params) (from to : Track) (map image : List ℕ) (k : ℕ) → k < p.sectors
    → after_writes p from to map image (suc k * 2) ≡ after_write p (copy_body to map (sectors_of p from image) k) (after_write p (copy_id p from to map k) (after_writes p from to map image (k * 2)))
copy_more p from to map image k h =
    let e : suc k * 2 ≡ suc (k * 2 + 1) = omega arith in
    let f : k * 2 + 1 ≡ suc (k * 2) = omega arith in
    ap (after_writes p from to map image) e ∙ writes_more p from to map image (k * 2 + 1)
    ∙ ap (λ (w : Write). after_write p w (after_writes p from to map image (k * 2 + 1))) (write_body p from to map image k h)
    ∙ ap (after_write p (copy_body to map (sectors_of p from image) k))
    (ap (after_writes p from to map image) f ∙ writes_more p from to map image (k * 2)
    ∙ ap (λ (w : Write). after_write p w (after_writes p from to map image (k * 2))) (write_id p from to map image k h))
