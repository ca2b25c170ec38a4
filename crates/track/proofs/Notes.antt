-- Laws of slots noted by sector, and of the loop that looks at slots until one is noted.
use mathlib.Core.Path.{◌≡◌, refl, sym, ap, ◌∙◌}
use mathlib.Core.Bool.{Bool, true, false, not, ◌&&◌, and-false, true≢false}
use mathlib.Core.Option as Math
use mathlib.Core.Option.{none, some, or_else}
use mathlib.Core.List.{List}
use Prim.Native.Nat.{ℕ, zero, suc, ◌+◌, ◌-◌, ◌≤◌, ◌<◌}
use native.Mathlib.Omega.{arith}
use native.Mathlib.Decide.{ℕ_discrete}
use native.Mathlib.Nat.{suc-add}
use lib.ListN.{length, get_or, set, length-set}
use lib.Seq.{get_or-set_same, get_or-set_other}
use lib.Dec.{eqb, ltb}
use borrow.Author.Tests.{lt-ltb, le-ltb, eq-eqb, ne_eqb, eqb-true}
use Rattle.std.specs.Option.{is_some, is_none, option_eq}
use Rattle.std.specs.declared.option.Option.TheVariants.{Some, None}
use Rattle.base.specs.Pick.{pick}
use Rattle.base.specs.First.{first_from, first_below}
use Rattle.base.proofs.Bools.{both_true}
use Rattle.base.proofs.Decide.{pick-false}
use Rattle.geometry.specs.declared.params.Params.{Params}
use Rattle.track.specs.declared.id.Id.{Id}
use Rattle.track.specs.Id.{id_in}
use Rattle.track.specs.Image.{slot_id}
use Rattle.track.specs.Find.{holds, slot_used}
use Rattle.track.specs.Search.{Note, note_of, noted, Noted}
use Rattle.track.proofs.Seeks.{holds_id}

-- ---- the first of c + d numbers is the first of the c, or else the first of the d behind them
first_step : (test : ℕ → Bool) (k c d : ℕ) (b : Bool) → first_from test (suc k) (c + d) ≡ or_else (first_from test (suc k) c) (first_from test (k + suc c) d)
    → pick b (some k) (first_from test (suc k) (c + d)) ≡ or_else (pick b (some k) (first_from test (suc k) c)) (first_from test (k + suc c) d)
unfolding pick or_else
first_step test k c d true ih = refl
first_step test k c d false ih = ih

first_then : (test : ℕ → Bool) (k c d : ℕ) → first_from test k (c + d) ≡ or_else (first_from test k c) (first_from test (k + c) d)
unfolding first_from or_else
first_then test k zero d = let z : d ≡ 0 + d = omega arith in let y : k ≡ k + 0 = omega arith in rw (← z, ← y)
first_then test k (suc c) d =
    let z : suc k + c ≡ k + suc c = omega arith in
    rw suc-add (first_step test k c d (test k) (rw z at (first_then test (suc k) c d)))

module _ (test : ℕ → Bool) where
  -- one number more
  pub first_next : (k : ℕ) → first_below test (k + 1) ≡ or_else (first_below test k) (pick (test k) (some k) none)
  unfolding first_below first_from
  first_next k = let z : 0 + k ≡ k = omega arith in rw z at (first_then test 0 k 1)

  -- the first below a bound is the first below a larger one
  pub first_kept : (k n i : ℕ) → k ≤ n → first_below test k ≡ some i → first_below test n ≡ some i
  unfolding first_below or_else
  first_kept k n i h e = let z : k + (n - k) ≡ n = omega arith in rw e at (rw z at (first_then test 0 k (n - k)))

-- a note compared with none; the edit last_match needs it, whose test is a `==`
pub none_eq : (x : Note) (b : Bool) → b ≡ option_eq eqb x None → is_some x ≡ not b
none_eq None b e = rw e refl
none_eq (Some j) b e = rw e refl

-- ---- a slot with an ID noted
-- the code's tests, on the ID's bytes
module _ (slot : List ℕ) (k : ℕ) (slots : List Note) where
  pub noted_unmarked : (get_or slot 0 0 ≡ 0xA1 → ⊥) → slots ≡ noted (id_in slot) k slots
  unfolding noted id_in pick
  noted_unmarked m = simp (ne_eqb _ _ m)

  module _ (m : get_or slot 0 0 ≡ 0xA1) where
    pub noted_past : 32 ≤ get_or slot 4 0 → slots ≡ noted (id_in slot) k slots
    unfolding noted id_in pick
    noted_past h = simp (eq-eqb _ _ m, le-ltb _ _ h)

    module _ (h : get_or slot 4 0 < 32) where
      pub noted_set : is_some (get_or slots (get_or slot 4 0) None) ≡ false → set slots (get_or slot 4 0) (Some k) ≡ noted (id_in slot) k slots
      unfolding noted id_in pick
      noted_set e = simp (eq-eqb _ _ m, lt-ltb _ _ h, e)

      pub noted_kept : is_some (get_or slots (get_or slot 4 0) None) ≡ true → slots ≡ noted (id_in slot) k slots
      unfolding noted id_in pick
      noted_kept e = simp (eq-eqb _ _ m, lt-ltb _ _ h, e)

module _ (id : Id) (k : ℕ) (slots : List Note) where
  either_length : (b : Bool) → length (pick b (set slots id.sector (Some k)) slots) ≡ length slots
  unfolding pick
  either_length true = length-set slots id.sector (Some k)
  either_length false = refl

  -- as many as before
  pub noted_length : length (noted id k slots) ≡ length slots
  unfolding noted
  noted_length = either_length _

  -- what is noted for sector q then: k where the ID is q's and none was noted, else what was
  module _ (q : ℕ) (h : q < length slots) where
    at_same : (b : Bool) → get_or (pick b (set slots q (Some k)) slots) q None ≡ pick b (Some k) (get_or slots q None)
    unfolding pick
    at_same true = get_or-set_same slots q (Some k) None h
    at_same false = refl

    at_other : (b : Bool) → (q ≡ id.sector → ⊥) → get_or (pick b (set slots id.sector (Some k)) slots) q None ≡ get_or slots q None
    unfolding pick
    at_other true ne = get_or-set_other slots id.sector q (Some k) None ne
    at_other false ne = refl

    noted_at : length slots ≡ 32 → get_or (noted id k slots) q None ≡ pick (eqb id.mark 0xA1 && (eqb id.sector q && is_none (get_or slots q None))) (Some k) (get_or slots q None)
    unfolding noted
    noted_at l = by (ℕ_discrete id.sector q)
      where
        by : Dec (id.sector ≡ q) → get_or (noted id k slots) q None ≡ pick (eqb id.mark 0xA1 && (eqb id.sector q && is_none (get_or slots q None))) (Some k) (get_or slots q None)
        by (yes e) = let z : ltb q 32 ≡ true = lt-ltb q 32 (omega arith) in rw (e, z, eq-eqb q q refl) (at_same _)
        by (no ne) = at_other _ (λ e. ne (sym e)) ∙ sym (pick-false _ (Some k) _ (rw (ne_eqb id.sector q ne) (and-false (eqb id.mark 0xA1))))

-- an ID looked at while none is noted for s, by whether it is s's
and_more : (m q x : Bool) → (m && q) ≡ false → (m && (q && x)) ≡ false
and_more true true x e = absurd (true≢false e)
and_more true false x e = refl
and_more false q x e = refl

module _ (id : Id) (k : ℕ) (slots : List Note) (s : ℕ) (h : s < 32) where
  noted_own : get_or slots s None ≡ None → (eqb id.mark 0xA1 && eqb id.sector s) ≡ true → set slots s (Some k) ≡ noted id k slots
  unfolding noted pick
  noted_own u e =
      let b = both_true (eqb id.mark 0xA1) (eqb id.sector s) e in
      rw (b.0, eqb-true id.sector s b.1, lt-ltb s 32 h, u)

  noted_other : length slots ≡ 32 → get_or slots s None ≡ None → (eqb id.mark 0xA1 && eqb id.sector s) ≡ false
      → get_or (noted id k slots) s None ≡ None
  noted_other l u e =
      noted_at id k slots s (omega arith) l
      ∙ pick-false _ (Some k) _ (and_more (eqb id.mark 0xA1) (eqb id.sector s) (is_none (get_or slots s None)) e) ∙ u

-- the note of the first among one number more
note_next : (k : ℕ) (m s : Bool) (o : Math.Option ℕ) → pick (m && (s && is_none (note_of o))) (Some k) (note_of o) ≡ note_of (or_else o (pick (m && s) (some k) none))
unfolding pick or_else note_of
note_next k true true none = refl
note_next k true false none = refl
note_next k false s none = refl
note_next k true true (some j) = refl
note_next k true false (some j) = refl
note_next k false s (some j) = refl

-- none is noted where nothing is
pub none_is : (o : Note) → is_some o ≡ false → o ≡ None
none_is None e = refl
none_is (Some k) e = absurd (true≢false e)

-- ---- the slots noted for the first k slots
module _ (p : Params) (bytes : List ℕ) (slots : List Note) (k : ℕ) (w : Noted p bytes slots k) where
  -- one slot more: each sector's first among the first k + 1
  pub noted_more : length slots ≡ 32 → k ≤ 32 → Noted p bytes (noted (id_in (slot_id p k bytes)) k slots) (k + 1)
  unfolding Noted holds
  noted_more l h q hq =
      let id : Id = id_in (slot_id p k bytes) in
      noted_at id k slots q (omega arith) l
      ∙ rw (w q hq, first_next (holds p q bytes) k) (note_next k (eqb id.mark 0xA1) (eqb id.sector q) _)

  -- one that is noted is the first of all
  pub noted_found : (s : ℕ) → s < 32 → k ≤ p.sectors → is_some (get_or slots s None) ≡ true → get_or slots s None ≡ note_of (slot_used p s bytes)
  unfolding Noted slot_used note_of
  noted_found s hs h ne = by (first_below (holds p s bytes) k) refl
    where
      by : (o : Math.Option ℕ) → first_below (holds p s bytes) k ≡ o → get_or slots s None ≡ note_of (slot_used p s bytes)
      by none e = absurd (true≢false (sym ne ∙ ap is_some (w s hs ∙ ap note_of e)))
      by (some i) e = w s hs ∙ rw (e, first_kept _ k p.sectors i h e)

  -- after all slots what is noted is the first of all, or none
  pub noted_all : (s : ℕ) → s < 32 → k ≡ p.sectors → get_or slots s None ≡ note_of (slot_used p s bytes)
  unfolding Noted slot_used
  noted_all s hs e = w s hs ∙ ap (λ (n : ℕ). note_of (first_below (holds p s bytes) n)) e

-- ---- the loop
-- the first k slots are noted
pub record Looked (p : Params) (bytes : List ℕ) (slots : List Note) (k : ℕ) : Type 0 where
  pub most : k ≤ p.sectors
  pub long : length slots ≡ 32
  pub notes : Noted p bytes slots k

-- one slot more
pub looked_more : (p : Params) (bytes : List ℕ) (slots more : List Note) (k : ℕ) → Looked p bytes slots k
    → (id : List ℕ) → id ≡ slot_id p k bytes → more ≡ noted (id_in id) k slots → k < p.sectors → p.sectors ≤ 32 → Looked p bytes more (k + 1)
looked_more p bytes slots more k w id ei e h m = record {
  most = omega arith;
  long = ap (λ (l : List Note). length l) e ∙ noted_length _ k slots ∙ w.long;
  notes =
      let z : more ≡ noted (id_in (slot_id p k bytes)) k slots = rw ei at e in
      rw z (noted_more p bytes slots k w.notes w.long (omega arith));
}

-- what look_for leaves: slots are noted up to `looked`, and sector s is among them if any slot holds it
abbrev pub Found : Params → (bytes : List ℕ) (slots : List Note) → (looked s : ℕ) → Type 0
Found p bytes slots looked s =
    (length slots ≡ 32) × (looked ≤ p.sectors) × Noted p bytes slots looked × (get_or slots s None ≡ note_of (slot_used p s bytes))

-- a slot is noted for s
pub found_noted : (p : Params) (bytes : List ℕ) (slots : List Note) (k s : ℕ) → length slots ≡ 32 → k ≤ p.sectors → Noted p bytes slots k → s < 32
    → is_some (get_or slots s None) ≡ true → Found p bytes slots k s
found_noted p bytes slots k s l h w hs ne =
    (l, h, w, noted_found p bytes slots k w s hs h ne)

-- the loop has not met s: the first k slots are noted, and none for s
pub record Looking (p : Params) (s : ℕ) (bytes : List ℕ) (slots : List Note) (k : ℕ) : Type 0 where
  pub looked : Looked p bytes slots k
  pub none : get_or slots s None ≡ None

module _ (p : Params) (s : ℕ) (bytes : List ℕ) (slots : List Note) (k : ℕ) (w : Looking p s bytes slots k) (hs : s < 32) where
  -- slot k is looked at
  module _ (h : k < p.sectors) (m : p.sectors ≤ 32) (id : List ℕ) (ei : id ≡ slot_id p k bytes) (is : Bool) (e : is ≡ holds_id s id) where
    -- it holds s
    pub looking_hit : is ≡ true → Found p bytes (set slots s (Some k)) (k + 1) s
    looking_hit z =
        let own = noted_own _ k slots s hs w.none (sym e ∙ z) in
        let next = looked_more p bytes slots (set slots s (Some k)) k w.looked id ei own h m in
        found_noted p bytes (set slots s (Some k)) (k + 1) s next.long next.most next.notes hs
        (ap is_some (get_or-set_same slots s (Some k) None (omega (arith, w.looked.long))))

    -- it does not, and is noted
    pub looking_more : (more : List Note) → more ≡ noted (id_in id) k slots → is ≡ false → Looking p s bytes more (k + 1)
    looking_more more en z =
        let next = looked_more p bytes slots more k w.looked id ei en h m in
        let left = noted_other _ k slots s hs w.looked.long w.none (sym e ∙ z) in
        record { looked = next; none = ap (λ (l : List Note). get_or l s None) en ∙ left }

  -- no slot is left
  pub looking_all : p.sectors ≤ k → Found p bytes slots k s
  looking_all h =
      let l = w.looked in
      (l.long, l.most, l.notes, noted_all p bytes slots k l.notes s hs (omega (arith, l.most)))
