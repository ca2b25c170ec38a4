-- Laws of stretches replaced: what lies there put back, one put over another, inside it or behind it, two that lie apart.
use mathlib.Core.Path.{◌≡◌, refl, sym, ap, ◌∙◌}
use mathlib.Core.List.{List, [], ◌++◌, append_assoc}
use Prim.Native.Nat.{ℕ, ◌+◌, ◌≤◌}
use native.Mathlib.Omega.{arith}
use lib.ListN.{length, take, drop, take-append-drop, length-append}
use lib.Seq.{take-append-le, drop-append-le, take_at, drop_at, drop-drop, drop-append-add, length-take-le}
use Rattle.base.specs.Part.{part, splice}
use Rattle.base.proofs.Parts.{length_part, length_splice, part_same, splice_splice}

-- what lies there, put in again
pub splice_part : (at size : ℕ) (xs : List ℕ) → at + size ≤ length xs → splice at (part at size xs) xs ≡ xs
unfolding splice part
splice_part at size xs h =
    ap (λ (n : ℕ). take at xs ++ (take size (drop at xs) ++ drop (at + n) xs)) (length_part at size xs h)
    ∙ ap (λ (l : List ℕ). take at xs ++ (take size (drop at xs) ++ l)) (sym (drop-drop size at xs))
    ∙ ap (λ (l : List ℕ). take at xs ++ l) (take-append-drop size (drop at xs))
    ∙ take-append-drop at xs

-- nothing put in
pub splice_empty : (at : ℕ) (xs : List ℕ) → splice at [] xs ≡ xs
unfolding splice
splice_empty at xs = let e : at + 0 ≡ at = omega arith in rw e (take-append-drop at xs)

-- one put over another
pub splice_again : (at : ℕ) (ys zs xs : List ℕ) → length ys ≡ length zs → at ≤ length xs → splice at ys (splice at zs xs) ≡ splice at ys xs
unfolding splice
splice_again at ys zs xs e h =
    let rest = drop (at + length zs) xs in
    let l : length (take at xs) ≡ at = length-take-le at xs h in
    let back : drop (at + length ys) (take at xs ++ (zs ++ rest)) ≡ drop (at + length ys) xs =
    ap (λ (n : ℕ). drop (n + length ys) (take at xs ++ (zs ++ rest))) (sym l)
    ∙ drop-append-add (take at xs) (zs ++ rest) (length ys) ∙ drop_at zs rest (length ys) (sym e) ∙ ap (λ (n : ℕ). drop (at + n) xs) (sym e) in
    rw (take_at (take at xs) (zs ++ rest) at l, back) refl

-- what lay there, put back
pub splice_back : (at size : ℕ) (ys xs : List ℕ) → length ys ≡ size → at + size ≤ length xs → splice at (part at size xs) (splice at ys xs) ≡ xs
splice_back at size ys xs e h =
    splice_again at (part at size xs) ys xs (length_part at size xs h ∙ sym e) (omega arith) ∙ splice_part at size xs h

-- one put inside another
pub splice_inside : (a n b : ℕ) (zs ys xs : List ℕ) → length ys ≡ n → b + length zs ≤ n → a + n ≤ length xs
    → splice (a + b) zs (splice a ys xs) ≡ splice a (splice b zs ys) xs
splice_inside a n b zs ys xs e h k =
    let long : a + n ≤ length (splice a ys xs) = omega (arith, length_splice a ys xs (omega arith)) in
    sym (splice_splice a n b zs (splice a ys xs) h long)
    ∙ ap (λ (l : List ℕ). splice a (splice b zs l) (splice a ys xs)) (part_same a n ys xs e k)
    ∙ splice_again a (splice b zs ys) ys xs (length_splice b zs ys (omega arith)) (omega arith)

-- one put just behind another
pub splice_behind : (a at : ℕ) (zs ys xs : List ℕ) → a + length ys ≡ at → at ≤ length xs → splice at zs (splice a ys xs) ≡ splice a (ys ++ zs) xs
unfolding splice
splice_behind a at zs ys xs e h =
    let rest = drop (a + length ys) xs in
    let lt : length (take a xs) ≡ a = length-take-le a xs (omega arith) in
    let whole : length (take a xs ++ ys) ≡ at = simp length-append (omega (arith, lt)) in
    let both : take a xs ++ (ys ++ rest) ≡ (take a xs ++ ys) ++ rest = sym (append_assoc (take a xs) ys rest) in
    let front : take at ((take a xs ++ ys) ++ rest) ≡ take a xs ++ ys = take_at (take a xs ++ ys) rest at whole in
    let past : at + length zs ≡ length (take a xs ++ ys) + length zs = omega (arith, whole) in
    let long : a + length ys + length zs ≡ a + length (ys ++ zs) = omega (arith, length-append ys zs) in
    let back : drop (at + length zs) ((take a xs ++ ys) ++ rest) ≡ drop (a + length (ys ++ zs)) xs =
    ap (λ (i : ℕ). drop i ((take a xs ++ ys) ++ rest)) past ∙ drop-append-add (take a xs ++ ys) rest (length zs)
    ∙ drop-drop (length zs) (a + length ys) xs ∙ ap (λ (i : ℕ). drop i xs) long in
    rw (both, front, back)
    (append_assoc (take a xs) ys (zs ++ drop (a + length (ys ++ zs)) xs)
    ∙ ap (λ (l : List ℕ). take a xs ++ l) (sym (append_assoc ys zs (drop (a + length (ys ++ zs)) xs))))

-- ---- in the front and in the back of two lists in a row
splice_left : (at : ℕ) (ys xs zs : List ℕ) → at + length ys ≤ length xs → splice at ys (xs ++ zs) ≡ splice at ys xs ++ zs
unfolding splice
splice_left at ys xs zs h =
    rw (take-append-le at xs zs (omega arith), drop-append-le (at + length ys) xs zs h)
    (sym (append_assoc (take at xs) (ys ++ drop (at + length ys) xs) zs
    ∙ ap (λ (l : List ℕ). take at xs ++ l) (append_assoc ys (drop (at + length ys) xs) zs)))

splice_right : (at : ℕ) (ys xs zs : List ℕ) → length xs ≡ at → splice at ys (xs ++ zs) ≡ xs ++ (ys ++ drop (length ys) zs)
unfolding splice
splice_right at ys xs zs e =
    let back : drop (at + length ys) (xs ++ zs) ≡ drop (length ys) zs = rw (← e) (drop-append-add xs zs (length ys)) in
    rw (take_at xs zs at e, back) refl

-- two stretches that lie apart, in either order
pub splice_apart : (i j : ℕ) (ys zs xs : List ℕ) → i + length ys ≤ j → j + length zs ≤ length xs → splice i ys (splice j zs xs) ≡ splice j zs (splice i ys xs)
splice_apart i j ys zs xs h k =
    let front = take j xs in
    let back = drop j xs in
    let l : length front ≡ j = length-take-le j xs (omega arith) in
    let whole : front ++ back ≡ xs = take-append-drop j xs in
    let room : i + length ys ≤ length front = omega (arith, l) in
    let first : splice j zs xs ≡ front ++ (zs ++ drop (length zs) back) = ap (splice j zs) (sym whole) ∙ splice_right j zs front back l in
    let second : splice i ys xs ≡ splice i ys front ++ back = ap (splice i ys) (sym whole) ∙ splice_left i ys front back room in
    ap (splice i ys) first ∙ splice_left i ys front (zs ++ drop (length zs) back) room
    ∙ sym (ap (splice j zs) second ∙ splice_right j zs (splice i ys front) back (length_splice i ys front room ∙ l))
