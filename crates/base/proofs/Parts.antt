-- Laws of parts, of a list with a part replaced, and of rows of one width.
use mathlib.Core.Path.{◌≡◌, refl, sym, ap, ap₂, ◌∙◌}
use mathlib.Core.Logic.{◌⊎◌, inl, inr}
use mathlib.Core.List.{List, [], ◌∷◌, ◌++◌, append-nil, append_assoc}
use Prim.Native.Nat.{ℕ, zero, suc, ◌+◌, ◌-◌, ◌*◌, ◌≤◌, ◌<◌}
use native.Mathlib.Omega.{arith}
use native.Mathlib.Decide.{dec_lt}
use native.Mathlib.Nat.{mul-le-mul_right, zero-mul, add-zero, eq-or-lt_of_le, le_of_suc-le-suc}
use lib.ListN.{length, take, drop, get_or, length-append, length-take, length-drop, take-append-drop, drop_of_length-le}
use lib.Seq.{take-append-le, drop-append-le, take_at, drop_at, take-take, drop-drop, drop-append-add, length-take-le, take-add}
use borrow.Rule.Slice.PartMut.{put_mid, Post-is}
use Rattle.base.specs.Part.{part, splice, rows}

-- ---- lengths
pub length_none : (xs : List ℕ) → length xs ≡ 0 → xs ≡ []
length_none [] e = refl
length_none (x ∷ xs) e = absurd (omega arith)

pub splice_none : (xs : List ℕ) → splice 0 [] xs ≡ xs
unfolding splice
splice_none xs = refl

pub length_part : (at size : ℕ) (xs : List ℕ) → at + size ≤ length xs → length (part at size xs) ≡ size
unfolding part
length_part at size xs h = simp (length-take, length-drop) (omega arith)

pub length_splice : (at : ℕ) (ys xs : List ℕ) → at + length ys ≤ length xs → length (splice at ys xs) ≡ length xs
unfolding splice
length_splice at ys xs h = simp (length-append, length-take, length-drop) (omega arith)

-- all of a list replaced
pub splice_all : (ys xs : List ℕ) → length ys ≡ length xs → splice 0 ys xs ≡ ys
unfolding splice
splice_all ys xs h = ap (λ (r : List ℕ). ys ++ r) (drop_of_length-le xs {i = 0 + length ys} (omega arith)) ∙ append-nil ys

-- ---- what a lent part is, and what stands after it was lent and changed
pub part_lent : (a e size : ℕ) (xs : List ℕ) → a + size ≡ e → take (e - a) (drop a xs) ≡ part a size xs
unfolding part
part_lent a e size xs h = let z : e - a ≡ size = omega arith in rw z

pub splice_lent : (a e : ℕ) (xs ys : List ℕ) → a + length ys ≡ e → put_mid a (e - a) xs ys ≡ splice a ys xs
unfolding splice
splice_lent a e xs ys h = rw h (ap (λ (r : List ℕ). take a xs ++ (ys ++ r)) (Post-is a e xs (omega arith)))

-- ---- a part after a replacement: the part replaced, one before it, one behind it
drop_splice : (at : ℕ) (ys xs : List ℕ) → at + length ys ≤ length xs → drop at (splice at ys xs) ≡ ys ++ drop (at + length ys) xs
unfolding splice
drop_splice at ys xs h = drop_at (take at xs) (ys ++ drop (at + length ys) xs) at (length-take-le at xs (omega arith))

pub part_same : (at size : ℕ) (ys xs : List ℕ) → length ys ≡ size → at + size ≤ length xs → part at size (splice at ys xs) ≡ ys
unfolding part
part_same at size ys xs e h = rw (drop_splice at ys xs (omega arith)) (take_at ys (drop (at + length ys) xs) size e)

pub part_left : (b size : ℕ) (xs ys : List ℕ) → b + size ≤ length xs → part b size (xs ++ ys) ≡ part b size xs
unfolding part
part_left b size xs ys h =
    rw (drop-append-le b xs ys (omega arith))
    (take-append-le size (drop b xs) ys (simp length-drop (omega arith)))

pub part_right : (b size k : ℕ) (xs ys : List ℕ) → length xs ≡ k → part (k + b) size (xs ++ ys) ≡ part b size ys
unfolding part
part_right b size k xs ys e = rw (← e) (ap (λ (l : List ℕ). take size l) (drop-append-add xs ys b))

pub part_before : (b size at : ℕ) (ys xs : List ℕ) → b + size ≤ at → at + length ys ≤ length xs → part b size (splice at ys xs) ≡ part b size xs
unfolding splice
part_before b size at ys xs h k =
    let l : b + size ≤ length (take at xs) = simp length-take (omega arith) in
    part_left b size (take at xs) (ys ++ drop (at + length ys) xs) l
    ∙ sym (part_left b size (take at xs) (drop at xs) l)
    ∙ ap (λ (l : List ℕ). part b size l) (take-append-drop at xs)

pub part_after : (b size at : ℕ) (ys xs : List ℕ) → at + length ys ≤ b → at + length ys ≤ length xs → part b size (splice at ys xs) ≡ part b size xs
unfolding splice
part_after b size at ys xs h k =
    let m : ℕ = at + length ys in
    let e : m + (b - m) ≡ b = omega arith in
    let l : length (take at xs ++ ys) ≡ m = simp (length-append, length-take) (omega arith) in
    let l2 : length (take m xs) ≡ m = simp length-take (omega arith) in
    ap (λ (l : List ℕ). part b size l) (sym (append_assoc (take at xs) ys (drop m xs)))
    ∙ ap (λ (c : ℕ). part c size ((take at xs ++ ys) ++ drop m xs)) (sym e)
    ∙ part_right (b - m) size m (take at xs ++ ys) (drop m xs) l
    ∙ sym (part_right (b - m) size m (take m xs) (drop m xs) l2)
    ∙ ap (λ (c : ℕ). part c size (take m xs ++ drop m xs)) e
    ∙ ap (λ (l : List ℕ). part b size l) (take-append-drop m xs)

-- ---- a part of a part, and a part replaced within a part
take_drop_take : (b m n : ℕ) (xs : List ℕ) → b + m ≤ n → take m (drop b (take n xs)) ≡ take m (drop b xs)
take_drop_take zero m n xs h = take-take m n xs (omega arith)
take_drop_take (suc b) m zero xs h = absurd (omega arith)
take_drop_take (suc b) m (suc n) [] h = refl
take_drop_take (suc b) m (suc n) (x ∷ xs) h = take_drop_take b m n xs (omega arith)

pub part_part : (a n b m : ℕ) (xs : List ℕ) → b + m ≤ n → part b m (part a n xs) ≡ part (a + b) m xs
unfolding part
part_part a n b m xs h = take_drop_take b m n (drop a xs) h ∙ ap (λ (l : List ℕ). take m l) (drop-drop b a xs)

pub splice_splice : (a n b : ℕ) (ys xs : List ℕ) → b + length ys ≤ n → a + n ≤ length xs → splice a (splice b ys (part a n xs)) xs ≡ splice (a + b) ys xs
unfolding splice part
splice_splice a n b ys xs h k =
    let P : List ℕ = take n (drop a xs) in
    let lp : length P ≡ n = simp (length-take, length-drop) (omega arith) in
    let le : length (take b P ++ (ys ++ drop (b + length ys) P)) ≡ n = simp (length-append, length-take, length-drop) (omega (arith, lp)) in
    let sum : a + (b + length ys) ≡ a + b + length ys = omega arith in
    let tail : drop (b + length ys) P ++ drop (a + n) xs ≡ drop (a + b + length ys) xs =
    ap (λ (l : List ℕ). drop (b + length ys) P ++ l) (sym (drop-drop n a xs))
    ∙ sym (drop-append-le (b + length ys) P (drop n (drop a xs)) (omega (arith, lp)))
    ∙ ap (λ (l : List ℕ). drop (b + length ys) l) (take-append-drop n (drop a xs))
    ∙ drop-drop (b + length ys) a xs ∙ ap (λ (i : ℕ). drop i xs) sum in
    ap (λ (i : ℕ). take a xs ++ ((take b P ++ (ys ++ drop (b + length ys) P)) ++ drop (a + i) xs)) le
    ∙ ap (λ (l : List ℕ). take a xs ++ l)
    (append_assoc (take b P) (ys ++ drop (b + length ys) P) (drop (a + n) xs)
    ∙ ap (λ (l : List ℕ). take b P ++ l) (append_assoc ys (drop (b + length ys) P) (drop (a + n) xs) ∙ ap (λ (l : List ℕ). ys ++ l) tail)
    ∙ ap (λ (l : List ℕ). l ++ (ys ++ drop (a + b + length ys) xs)) (take-take b n (drop a xs) (omega arith)))
    ∙ sym (append_assoc (take a xs) (take b (drop a xs)) (ys ++ drop (a + b + length ys) xs))
    ∙ ap (λ (l : List ℕ). l ++ (ys ++ drop (a + b + length ys) xs)) (sym (take-add a b xs))

-- ---- cells of one width, side by side
-- all nonlinear arithmetic: cell i ends where a later one begins, or before
pub cell_in : (w i n : ℕ) → i < n → i * w + w ≤ n * w
cell_in w i n h = omega (arith, mul-le-mul_right w h)

-- what is written in cell i leaves cell j
pub other_cell : (w i j at b size o : ℕ) (ys xs : List ℕ) → (i ≡ j → ⊥) → o + i * w ≤ at → at + length ys ≤ o + i * w + w
    → o + j * w ≤ b → b + size ≤ o + j * w + w → at + length ys ≤ length xs → part b size (splice at ys xs) ≡ part b size xs
other_cell w i j at b size o ys xs ne h₁ h₂ h₃ h₄ fits = by (dec_lt j i)
  where
    by : Dec (j < i) → part b size (splice at ys xs) ≡ part b size xs
    by (yes l) = part_before b size at ys xs (omega (arith, cell_in w j i l)) fits
    by (no l) = part_after b size at ys xs (omega (arith, cell_in w i j (omega arith))) fits

-- parts put one behind the other
pub splice_on : (hs ys xs : List ℕ) (at : ℕ) → length hs ≡ at → splice at ys (splice 0 hs xs) ≡ splice 0 (hs ++ ys) xs
unfolding splice
splice_on hs ys xs at e =
    let rest = drop (0 + length hs) xs in
    let front : take at (hs ++ rest) ≡ hs = take_at hs rest at e in
    let back : drop (at + length ys) (hs ++ rest) ≡ drop (length ys) rest = rw (← e) (drop-append-add hs rest (length ys)) in
    let long : 0 + length hs + length ys ≡ 0 + length (hs ++ ys) = omega (arith, length-append hs ys) in
    let tail : drop (length ys) rest ≡ drop (0 + length (hs ++ ys)) xs = drop-drop (length ys) (0 + length hs) xs ∙ ap (λ (i : ℕ). drop i xs) long in
    rw (front, back, tail) (sym (append_assoc hs ys (drop (0 + length (hs ++ ys)) xs)))

-- an element is the same, whatever stands for those past the end
pub get_d_any : {A : Type 0} (xs : List A) (i : ℕ) (d e : A) → i < length xs → get_or xs i d ≡ get_or xs i e
get_d_any [] i d e h = absurd (omega arith)
get_d_any (x ∷ xs) zero d e h = refl
get_d_any (x ∷ xs) (suc i) d e h = get_d_any xs i d e (le_of_suc-le-suc h)

-- ---- rows of one width
pub length_rows : (row : ℕ → List ℕ) (w n : ℕ) → ((i : ℕ) → i < n → length (row i) ≡ w) → length (rows row n) ≡ n * w
unfolding rows
length_rows row w zero h = sym (zero-mul w)
length_rows row w (suc n) h = length-append (rows row n) (row n) ∙ omega (arith, h n (omega arith), length_rows row w n (λ i l. h i (omega arith)))

pub rows_same : (x y : ℕ → List ℕ) (n : ℕ) → ((i : ℕ) → i < n → x i ≡ y i) → rows x n ≡ rows y n
unfolding rows
rows_same x y zero h = refl
rows_same x y (suc n) h = ap₂ {C = List ℕ} (λ a b. a ++ b) (rows_same x y n (λ i l. h i (omega arith))) (h n (omega arith))

-- a part that lies within row i
pub part_row : (row : ℕ → List ℕ) (w n i b size : ℕ) → ((j : ℕ) → length (row j) ≡ w) → i < n → b + size ≤ w
    → part (i * w + b) size (rows row n) ≡ part b size (row i)
unfolding rows
part_row row w zero i b size h l k = absurd (omega arith)
part_row row w (suc n) i b size h l k = by (eq-or-lt_of_le (le_of_suc-le-suc l)) (λ l'. part_row row w n i b size h l' k)
  where
    by : (i ≡ n) ⊎ (i < n) → (i < n → part (i * w + b) size (rows row n) ≡ part b size (row i)) → part (i * w + b) size (rows row n ++ row n) ≡ part b size (row i)
    by (inl e) ih = rw e (part_right b size (n * w) (rows row n) (row n) (length_rows row w n (λ j m. h j)))
    by (inr l') ih =
        part_left (i * w + b) size (rows row n) (row n) (omega (arith, length_rows row w n (λ j m. h j), cell_in w i n l'))
        ∙ ih l'

-- the front of row i
pub row_front : (row : ℕ → List ℕ) (w n i size : ℕ) → ((j : ℕ) → length (row j) ≡ w) → i < n → size ≤ w → part (i * w) size (rows row n) ≡ part 0 size (row i)
row_front row w n i size h l k = ap (λ (b : ℕ). part b size (rows row n)) (sym (add-zero (i * w))) ∙ part_row row w n i 0 size h l (omega arith)
