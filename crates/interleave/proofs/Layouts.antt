-- Laws of the interleave, for any n and f.
use Prim.Native.Nat.{ℕ, zero, suc, ◌+◌, ◌-◌, ◌%◌, ◌≤◌, ◌<◌}
use mathlib.Core.Path.{◌≡◌, refl, sym, ap, subst, ◌∙◌}
use mathlib.Core.Logic.{◌⊎◌, inl, inr, ⊎_elim}
use mathlib.Core.List.{List, [], ◌∷◌, ◌++◌}
use native.Mathlib.Nat.{mod-lt, mod-eq_of_lt, mod-eq-sub-mod, mod_self, not-suc-le-zero, le_of_suc-le-suc, eq-zero-or-pos, add-zero, zero-add, add-suc}
use native.Mathlib.Numerals.{sub-one}
use native.Mathlib.Decide.{ℕ_discrete, dec_lt}
use native.Mathlib.Omega.{arith}
use lib.ListN.{length, get_or, set, replicate, length-set, length-replicate, get_or-replicate, get_or-append, replicate-append-replicate}
use lib.Seq.{get_or-set_same, get_or-set_other, set-append_left}
use lib.Dec.{eqb}
use borrow.Author.Tests.{eq-eqb, ne_eqb}
use Rattle.base.specs.Pick.{pick}
use Rattle.interleave.specs.Layout.{empty_from, Laid, lay_at, place, laid, layout_of}

-- the next slot, upward and round
round_up : (p n : ℕ) → p + 1 < n → (p + 1) % n ≡ p + 1
round_up p n h = mod-eq_of_lt h

round_end : (p n : ℕ) → p + 1 ≡ n → (p + 1) % n ≡ 0
round_end p n e = ap (λ (k : ℕ). k % n) e ∙ mod_self n

-- a number counted round is a slot's
pub wrapped_lt : (x n r : ℕ) → 0 < n → r ≡ x % n → r < n
wrapped_lt x n r h e = rw e (mod-lt x h)

-- i steps on, short of the end and past it
pub step_short : (p i n : ℕ) → p < n - i → p + i ≡ (p + i) % n
step_short p i n h = sym (mod-eq_of_lt (omega arith))

pub step_past : (p i n : ℕ) → p < n → i ≤ n → n - i ≤ p → p - (n - i) ≡ (p + i) % n
step_past p i n pn le h =
    let e : p - (n - i) ≡ p + i - n = omega arith in
    let past : n ≤ p + i = omega arith in
    e ∙ sym (mod-eq-sub-mod past ∙ mod-eq_of_lt (omega arith))

-- j is reached from p in i steps, upward and round
Reached : ℕ → ℕ → ℕ → ℕ → Type 0
Reached n p i j = (p + i ≡ j) ⊎ (p + i ≡ j + n)

-- one step on, where p is not j itself
step_on : (n p i j : ℕ) → p < n → j < n → (p ≡ j → ⊥) → Reached n p i j → (0 < i) × Reached n ((p + 1) % n) (i - 1) j
unfolding Reached
step_on n p i j pn jn ne (inl e) =
    let h : 0 < i = ⊎_elim (λ z. absurd (ne (omega arith))) (λ l. l) (eq-zero-or-pos i) in
    (h, inl (simp (round_up p n (omega arith)) (omega arith)))
step_on n p i j pn jn ne (inr e) =
    let h : 0 < i = omega arith in (
      h,
      elim (dec_lt (p + 1) n) [
        | yes l ↦ inr (simp (round_up p n l) (omega arith))
        | no g ↦ inl (simp (round_end p n (omega arith)) (omega arith))
      ],
    )

-- j is reached from any p in less than n steps
reach : (n p j : ℕ) → p < n → j < n → (i : ℕ) × (i < n) × Reached n p i j
unfolding Reached
reach n p j pn jn =
    elim (dec_lt j p) [
      | yes l ↦ (j + n - p, omega arith, inr (omega arith))
      | no g ↦ (j - p, omega arith, inl (omega arith))
    ]

-- What the search answers is an empty slot, where an empty slot j is reached in fewer steps than the slots looked at.
module _ (m : List ℕ) (n j : ℕ) (jn : j < n) (free : get_or m j 0 ≡ n) where
  found : (k p i : ℕ) → p < n → Reached n p i j → i < k → (empty_from m n k p < n) × (get_or m (empty_from m n k p) 0 ≡ n)
  unfolding empty_from pick
  found zero p i pn r h = absurd (not-suc-le-zero h)
  found (suc k) p i pn r h =
      elim (ℕ_discrete (get_or m p 0) n) [
        | yes e ↦ simp (eq-eqb _ _ e) (pn, e)
        | no ne ↦
            let on = step_on n p i j pn jn (λ e. ne (ap (λ (x : ℕ). get_or m x 0) e ∙ free)) r in
            simp (ne_eqb _ _ ne) (found k ((p + 1) % n) (i - 1) (mod-lt (p + 1) (omega arith)) on.1 (omega arith))
      ]

  found_any : (p : ℕ) → p < n → (empty_from m n n p < n) × (get_or m (empty_from m n n p) 0 ≡ n)
  found_any p pn = let r = reach n p j pn jn in found n p r.0 pn r.2 r.1

-- the search answers its own start where that is empty
pub look_here : (m : List ℕ) (n p k : ℕ) → 0 < k → get_or m p 0 ≡ n → empty_from m n k p ≡ p
unfolding empty_from pick
look_here m n p zero l e = absurd (not-suc-le-zero l)
look_here m n p (suc k) l e = simp (eq-eqb _ _ e)

-- and goes on to the next slot where it is not
pub look_on : (m : List ℕ) (n p q k j : ℕ) → k ≡ suc j → q ≡ (p + 1) % n → (get_or m p 0 ≡ n → ⊥) → empty_from m n j q ≡ empty_from m n k p
unfolding empty_from pick
look_on m n p q k j l e ne = rw (l, e, ne_eqb _ _ ne)

pub look_none : (m : List ℕ) (n p k : ℕ) → k ≤ 0 → empty_from m n k p ≡ p
unfolding empty_from pick
look_none m n p zero l = refl
look_none m n p (suc k) l = absurd (not-suc-le-zero l)

-- what stands past slot n is never looked at
look_append : (m t : List ℕ) (n : ℕ) → length m ≡ n → (k p : ℕ) → p < n → empty_from (m ++ t) n k p ≡ empty_from m n k p
unfolding empty_from pick
look_append m t n e zero p h = refl
look_append m t n e (suc k) p h =
    simp (get_or-append m t 0 p (omega arith), look_append m t n e k ((p + 1) % n) (mod-lt (p + 1) (omega arith)))

empty_here : (m : List ℕ) (n p : ℕ) → 0 < n → get_or m p 0 ≡ n → empty_from m n n p ≡ p
empty_here m n p h e = look_here m n p n h e

-- how many entries are x
pub count_of : ℕ → List ℕ → ℕ
count_of x [] = 0
count_of x (y ∷ m) = pick (eqb y x) (suc (count_of x m)) (count_of x m)

-- where there is one, it has an index
count_at : (x : ℕ) (m : List ℕ) → 0 < count_of x m → (j : ℕ) × (j < length m) × (get_or m j 0 ≡ x)
unfolding count_of pick
count_at x [] h = absurd (not-suc-le-zero h)
count_at x (y ∷ m) h =
    elim (ℕ_discrete y x) [
      | yes e ↦ (zero, omega arith, e)
      | no ne ↦
          let r = count_at x m (simp (ne_eqb _ _ ne) at h) in
          (suc r.0, omega arith, r.2)
    ]

count_some : (x : ℕ) (m : List ℕ) (j : ℕ) → j < length m → get_or m j 0 ≡ x → 0 < count_of x m
unfolding count_of pick
count_some x [] j h e = absurd (not-suc-le-zero h)
count_some x (y ∷ m) zero h e = simp (eq-eqb _ _ e) (omega arith)
count_some x (y ∷ m) (suc j) h e =
    elim (ℕ_discrete y x) [
      | yes z ↦ simp (eq-eqb _ _ z) (omega arith)
      | no z ↦ simp (ne_eqb _ _ z) (count_some x m j (le_of_suc-le-suc h) e)
    ]

-- replacing an x takes one off
count_set : (x v : ℕ) (m : List ℕ) (q : ℕ) → q < length m → get_or m q 0 ≡ x → (v ≡ x → ⊥) → suc (count_of x (set m q v)) ≡ count_of x m
unfolding count_of pick
count_set x v [] q h e ne = absurd (not-suc-le-zero h)
count_set x v (y ∷ m) zero h e ne = simp (eq-eqb _ _ e, ne_eqb _ _ ne)
count_set x v (y ∷ m) (suc q) h e ne =
    elim (ℕ_discrete y x) [
      | yes z ↦ simp (eq-eqb _ _ z) (ap suc (count_set x v m q (le_of_suc-le-suc h) e ne))
      | no z ↦ simp (ne_eqb _ _ z) (count_set x v m q (le_of_suc-le-suc h) e ne)
    ]

count_replicate : (x k : ℕ) → count_of x (replicate k x) ≡ k
unfolding count_of pick
count_replicate x zero = refl
count_replicate x (suc k) = simp (eq-eqb x x refl) (ap suc (count_replicate x k))

-- What holds once sectors 0 to k are placed.
pub record Good (n k : ℕ) (l : Laid) : Type 0 where
  pub len : length l.map ≡ n
  pub room : count_of n l.map + suc k ≡ n
  pub last_in : l.last < n
  -- an entry is empty or one of the sectors placed
  pub low : (j : ℕ) → j < n → (get_or l.map j 0 ≡ n) ⊎ (get_or l.map j 0 ≤ k)
  -- each sector placed has a slot
  pub has : (s : ℕ) → s ≤ k → (j : ℕ) × (j < n) × (get_or l.map j 0 ≡ s)
  -- and no other
  pub one : (i j : ℕ) → i < n → j < n → get_or l.map i 0 ≡ get_or l.map j 0 → get_or l.map i 0 < n → i ≡ j

-- a sector laid in an empty slot
module _ (n k s : ℕ) (m : List ℕ) (q z : ℕ) (sn : s < n) (good : Good n k (record { map = m; last = z })) (qn : q < n) (free : get_or m q 0 ≡ n) (new : s ≡ suc k) where
  there : get_or (set m q s) q 0 ≡ s
  there = get_or-set_same m q s 0 (subst (λ (x : ℕ). q < x) (sym good.len) qn)

  elsewhere : (j : ℕ) → (j ≡ q → ⊥) → get_or (set m q s) j 0 ≡ get_or m j 0
  elsewhere j ne = get_or-set_other m q j s 0 ne

  lay_low : (j : ℕ) → j < n → (get_or (set m q s) j 0 ≡ n) ⊎ (get_or (set m q s) j 0 ≤ s)
  lay_low j jn =
      elim (ℕ_discrete j q) [
        | yes e ↦ inr (rw e (omega (arith, there)))
        | no ne ↦ rw (elsewhere j ne) (⊎_elim (λ e. inl e) (λ (l : get_or m j 0 ≤ k). inr (omega arith)) (good.low j jn))
      ]

  lay_has : (t : ℕ) → t ≤ s → (j : ℕ) × (j < n) × (get_or (set m q s) j 0 ≡ t)
  lay_has t h =
      elim (ℕ_discrete t s) [
        | yes e ↦ (q, qn, there ∙ sym e)
        | no ne ↦
            let r = good.has t (omega arith) in
            (r.0, r.1, elsewhere r.0 (λ e. absurd (let x : get_or m r.0 0 ≡ n = ap (λ (y : ℕ). get_or m y 0) e ∙ free in omega arith)) ∙ r.2)
      ]

  lay_only : (j : ℕ) → j < n → (j ≡ q → ⊥) → get_or (set m q s) j 0 ≡ s → ⊥
  lay_only j jn ne e =
      let x : get_or m j 0 ≡ s = sym (elsewhere j ne) ∙ e in
      ⊎_elim (λ (y : get_or m j 0 ≡ n). omega arith) (λ (y : get_or m j 0 ≤ k). omega arith) (good.low j jn)

  lay_one : (i j : ℕ) → i < n → j < n → get_or (set m q s) i 0 ≡ get_or (set m q s) j 0 → get_or (set m q s) i 0 < n → i ≡ j
  lay_one i j hi hj e l =
      elim (ℕ_discrete i q) [
        | yes a ↦ elim (ℕ_discrete j q) [
          | yes b ↦ a ∙ sym b
          | no b ↦ absurd (lay_only j hj b (sym e ∙ ap (λ (y : ℕ). get_or (set m q s) y 0) a ∙ there))
        ]
        | no a ↦ elim (ℕ_discrete j q) [
          | yes b ↦ absurd (lay_only i hi a (e ∙ ap (λ (y : ℕ). get_or (set m q s) y 0) b ∙ there))
          | no b ↦ good.one i j hi hj (sym (elsewhere i a) ∙ e ∙ elsewhere j b) (subst (λ (y : ℕ). y < n) (elsewhere i a) l)
        ]
      ]

  lay_good : Good n s (lay_at s m q)
  unfolding lay_at
  lay_good = record {
    len = length-set m q s ∙ good.len;
    room = let c = count_set n s m q (omega (arith, good.len)) free (λ e. absurd (omega arith)) in omega (arith, good.room);
    last_in = qn;
    low = lay_low;
    has = lay_has;
    one = lay_one;
  }

-- sector 0 alone
good_first : (n f : ℕ) → 0 < n → Good n 0 (laid n f 0)
unfolding laid lay_at
good_first n f h =
    let in_range : 0 < length (replicate n n) = omega (arith, length-replicate n n) in
    let there : get_or (set (replicate n n) 0 0) 0 0 ≡ 0 = get_or-set_same (replicate n n) 0 0 0 in_range in
    let elsewhere : (j : ℕ) → j < n → (j ≡ 0 → ⊥) → get_or (set (replicate n n) 0 0) j 0 ≡ n =
    λ j jn ne. get_or-set_other (replicate n n) 0 j 0 0 ne ∙ get_or-replicate n j n 0 jn in
    record {
      len = length-set (replicate n n) 0 0 ∙ length-replicate n n;
      room = omega (arith, count_set n 0 (replicate n n) 0 in_range (get_or-replicate n 0 n 0 h) (λ e. absurd (omega arith)), count_replicate n n);
      last_in = h;
      low = λ j jn. elim (ℕ_discrete j 0) [
        | yes e ↦ inr (rw e (omega (arith, there)))
        | no ne ↦ inl (elsewhere j jn ne)
      ];
      has = λ s l. (0, h, there ∙ omega arith);
      one = λ i j hi hj e l. elim (ℕ_discrete i 0) [
        | yes a ↦ elim (ℕ_discrete j 0) [
          | yes b ↦ a ∙ sym b
          | no b ↦ absurd (let x : 0 ≡ n = sym there ∙ ap (λ (y : ℕ). get_or (set (replicate n n) 0 0) y 0) (sym a) ∙ e ∙ elsewhere j hj b in omega arith)
        ]
        | no a ↦ absurd (omega (arith, elsewhere i hi a))
      ];
    }

-- the slot that the next sector goes to is empty
next_free : (n f k : ℕ) (l : Laid) → Good n k l → suc k < n
    → (empty_from l.map n n ((l.last + f) % n) < n) × (get_or l.map (empty_from l.map n n ((l.last + f) % n)) 0 ≡ n)
next_free n f k l good h =
    let r = count_at n l.map (omega (arith, good.room)) in
    found_any l.map n r.0 (omega (arith, good.len)) r.2 ((l.last + f) % n) (mod-lt (l.last + f) (omega arith))

good_next : (n f k : ℕ) (l : Laid) → Good n k l → suc k < n → Good n (suc k) (place n f (suc k) l)
unfolding place
good_next n f k l good h =
    let r = next_free n f k l good h in
    lay_good n k (suc k) l.map _ l.last h good r.0 r.1 refl

pub good_laid : (n f k : ℕ) → k < n → Good n k (laid n f k)
unfolding laid
good_laid n f zero h = good_first n f h
good_laid n f (suc k) h = good_next n f k (laid n f k) (good_laid n f k (omega arith)) h

-- a slot that is taken stays so
kept : (n f k j : ℕ) → suc k < n → (get_or (laid n f k).map j 0 ≡ n → ⊥) → get_or (laid n f (suc k)).map j 0 ≡ get_or (laid n f k).map j 0
unfolding laid place lay_at
kept n f k j h taken =
    let r = next_free n f k (laid n f k) (good_laid n f k (omega arith)) h in
    get_or-set_other (laid n f k).map _ j (suc k) 0 (λ e. taken (ap (λ (y : ℕ). get_or (laid n f k).map y 0) e ∙ r.1))

-- so is a slot that has sector s < n, from then on
stays : (n f j s k : ℕ) → s < n → get_or (laid n f k).map j 0 ≡ s → (i : ℕ) → k + i < n → get_or (laid n f (k + i)).map j 0 ≡ s
stays n f j s k sn e zero h = rw add-zero e
stays n f j s k sn e (suc i) h =
    let b = stays n f j s k sn e i (omega arith) in
    rw add-suc (kept n f (k + i) j (omega arith) (λ z. absurd (omega arith)) ∙ b)

one_there : (n f : ℕ) → 0 < f → f < n → get_or (laid n f 1).map f 0 ≡ 1
unfolding laid place lay_at
one_there n f hf h =
    let m = set (replicate n n) 0 0 in
    let free : get_or m f 0 ≡ n = get_or-set_other (replicate n n) 0 f 0 0 (λ e. absurd (omega arith)) ∙ get_or-replicate n f n 0 h in
    let at : (0 + f) % n ≡ f = rw zero-add (mod-eq_of_lt h) in
    let slot : empty_from m n n ((0 + f) % n) ≡ f = rw at (empty_here m n f (omega arith) free) in
    rw slot (get_or-set_same m f 1 0 (omega (arith, length-set (replicate n n) 0 0, length-replicate n n)))

-- (a) each sector below n has exactly one slot below n
module _ (n f : ℕ) (pos : 0 < n) where
  last_good : Good n (n - 1) (laid n f (n - 1))
  last_good = good_laid n f (n - 1) (omega arith)

  pub layout_length : length (layout_of n f) ≡ n
  unfolding layout_of
  layout_length = last_good.len

  pub layout_below : (j : ℕ) → j < n → get_or (layout_of n f) j 0 < n
  unfolding layout_of
  layout_below j jn =
      ⊎_elim (λ (e : get_or (layout_of n f) j 0 ≡ n). absurd (omega (arith, last_good.room, count_some n (layout_of n f) j (omega (arith, last_good.len)) e))) (λ (l : get_or (layout_of n f) j 0 ≤ n - 1). omega arith) (last_good.low j jn)

  pub layout_has : (s : ℕ) → s < n → (j : ℕ) × (j < n) × (get_or (layout_of n f) j 0 ≡ s)
  unfolding layout_of
  layout_has s h = last_good.has s (omega arith)

  pub layout_one : (i j : ℕ) → i < n → j < n → get_or (layout_of n f) i 0 ≡ get_or (layout_of n f) j 0 → i ≡ j
  unfolding layout_of
  layout_one i j hi hj e = last_good.one i j hi hj e (layout_below i hi)

-- (b) sector 1 has slot f
pub layout_first : (n f : ℕ) → 0 < f → f < n → get_or (layout_of n f) f 0 ≡ 1
unfolding layout_of
layout_first n f hf h =
    let e : 1 + (n - 2) ≡ n - 1 = omega arith in
    rw e at (stays n f f 1 1 (omega arith) (one_there n f hf h) (n - 2) (omega arith))

-- The fill of an array of 32: what holds once sectors below s are placed, p the slot of the last.
pub record Filled (n f s : ℕ) (map : List ℕ) (p : ℕ) : Type 0 where
  pub some : 0 < s
  pub most : s ≤ n
  pub is : map ≡ (laid n f (s - 1)).map ++ replicate (32 - n) n
  pub at : p ≡ (laid n f (s - 1)).last
  pub inside : p < n
  pub len : length map ≡ 32

pub filled_first : (n f : ℕ) → 0 < n → n ≤ 32 → Filled n f 1 (set (replicate 32 n) 0 0) 0
unfolding laid lay_at
filled_first n f h l =
    let e : n + (32 - n) ≡ 32 = omega arith in
    let whole : replicate n n ++ replicate (32 - n) n ≡ replicate 32 n = replicate-append-replicate n (32 - n) n ∙ ap (λ (k : ℕ). replicate k n) e in
    record {
      some = omega arith;
      most = h;
      is = ap (λ (m : List ℕ). set m 0 0) (sym whole) ∙ set-append_left (replicate n n) (replicate (32 - n) n) 0 0 (omega (arith, length-replicate n n));
      at = refl;
      inside = h;
      len = length-set (replicate 32 n) 0 0 ∙ length-replicate 32 n;
    }

laid_next : (n f s : ℕ) → 0 < s → laid n f s ≡ place n f s (laid n f (s - 1))
unfolding laid
laid_next n f zero h = absurd (not-suc-le-zero h)
laid_next n f (suc s) h = simp sub-one

pub filled_next : (n f s : ℕ) (map : List ℕ) (p q : ℕ) → n ≤ 32 → s < n → Filled n f s map p → q ≡ empty_from map n n ((p + f) % n) → Filled n f (s + 1) (set map q s) q
unfolding place lay_at
filled_next n f s map p q l h fill e =
    let b = laid n f (s - 1) in
    let t = replicate (32 - n) n in
    let good = good_laid n f (s - 1) (omega (arith, fill.some)) in
    let slot : q ≡ empty_from b.map n n ((b.last + f) % n) =
    e ∙ ap (λ (m : List ℕ). empty_from m n n ((p + f) % n)) fill.is ∙ look_append b.map t n good.len n ((p + f) % n) (mod-lt (p + f) (omega arith))
    ∙ ap (λ (x : ℕ). empty_from b.map n n ((x + f) % n)) fill.at in
    let free = next_free n f (s - 1) b good (omega (arith, fill.some)) in
    let q_in : q < n = subst (λ (x : ℕ). x < n) (sym slot) free.0 in
    let now : laid n f (s + 1 - 1) ≡ record { map = set b.map q s; last = q } =
    ap (λ (k : ℕ). laid n f k) (omega arith) ∙ laid_next n f s fill.some ∙ ap (λ (x : ℕ). lay_at s b.map x) (sym slot) in
    record {
      some = omega arith;
      most = omega arith;
      is = ap (λ (m : List ℕ). set m q s) fill.is ∙ set-append_left b.map t q s (omega (arith, good.len)) ∙ ap (λ (x : Laid). x.map ++ t) (sym now);
      at = ap (λ (x : Laid). x.last) (sym now);
      inside = q_in;
      len = length-set map q s ∙ fill.len;
    }

pub filled_last : (n f s : ℕ) (map : List ℕ) (p : ℕ) → n ≤ s → Filled n f s map p → map ≡ layout_of n f ++ replicate (32 - n) n
unfolding layout_of
filled_last n f s map p h fill =
    fill.is ∙ ap (λ (k : ℕ). (laid n f (k - 1)).map ++ replicate (32 - n) n) (omega (arith, fill.most))
