-- Laws of the input taken a character at a time: it may be cut anywhere, and up to its first line feed it is one line.
use Prim.Native.Nat.{ℕ, suc, ◌≤◌, ◌<◌}
use mathlib.Core.Path.{◌≡◌, refl, sym, ap, ◌∙◌}
use mathlib.Core.Bool.{Bool, true, false}
use mathlib.Core.List.{List, [], ◌∷◌, ◌++◌, append_assoc, append-nil}
use native.Mathlib.Omega.{arith}
use lib.ListN.{length, take}
use lib.Dec.{eqb}
use Rattle.base.proofs.Decide.{pick_true, pick-false}
use Rattle.hex_text.specs.Line.{Reading, accepted, accepted_all}
use Rattle.lines.specs.Talk.{Talk, Spoken, answered, heard, talked}
use Rattle.lines.specs.Frames.{spoken_behind, pieces_talked, joined}
use Rattle.lines.specs.Hearing.{feed_at}

-- ---- text behind text
behind_behind : (a b : List ℕ) (s : Spoken) → spoken_behind (a ++ b) s ≡ spoken_behind a (spoken_behind b s)
unfolding spoken_behind
behind_behind a b s = rw (append_assoc a b s.text)

-- ---- cut anywhere: the rest is heard from where the first part left it
pub talked_cut : (x : Talk) (a b : List ℕ) → talked x (a ++ b) ≡ spoken_behind (talked x a).text (talked (talked x a).talk b)
unfolding talked spoken_behind
talked_cut x [] b = refl
talked_cut x (c ∷ a) b =
    ap (spoken_behind (heard x c).text) (talked_cut (heard x c).talk a b)
    ∙ sym (behind_behind (heard x c).text (talked (heard x c).talk a).text (talked (talked (heard x c).talk a).talk b))

pub talked_pieces : (x : Talk) (pieces : List (List ℕ)) → pieces_talked x pieces ≡ talked x (joined pieces)
unfolding pieces_talked joined talked
talked_pieces x [] = refl
talked_pieces x (piece ∷ pieces) =
    ap (spoken_behind (talked x piece).text) (talked_pieces (talked x piece).talk pieces) ∙ sym (talked_cut x piece (joined pieces))

-- ---- one character
abbrev pub with_reading : Talk → Reading → Talk
with_reading x reading = record { controller = x.controller; reading = reading; area = x.area; images = x.images }

abbrev pub quiet : Talk → Spoken
quiet x = record { talk = x; text = [] }

pub heard_feed : (x : Talk) (c : ℕ) → eqb c 0x0A ≡ true → heard x c ≡ answered x
unfolding heard
heard_feed x c e = pick_true _ _ _ e

pub heard_plain : (x : Talk) (c : ℕ) → eqb c 0x0A ≡ false → heard x c ≡ quiet (with_reading x (accepted x.reading c))
unfolding heard
heard_plain x c e = pick-false _ _ _ e

pub talked_plain : (x : Talk) (c : ℕ) (input : List ℕ) → eqb c 0x0A ≡ false
    → talked x (c ∷ input) ≡ talked (with_reading x (accepted x.reading c)) input
unfolding talked spoken_behind
talked_plain x c input e = ap (λ (h : Spoken). spoken_behind h.text (talked h.talk input)) (heard_plain x c e)

pub talked_feed : (x : Talk) (c : ℕ) (input : List ℕ) → eqb c 0x0A ≡ true
    → talked x (c ∷ input) ≡ spoken_behind (answered x).text (talked (answered x).talk input)
unfolding talked spoken_behind
talked_feed x c input e = ap (λ (h : Spoken). spoken_behind h.text (talked h.talk input)) (heard_feed x c e)

-- ---- up to the first line feed
pub feed_here : (c : ℕ) (input : List ℕ) → eqb c 0x0A ≡ true → feed_at (c ∷ input) ≡ 0
unfolding feed_at
feed_here c input e = pick_true _ _ _ e

pub feed_later : (c : ℕ) (input : List ℕ) → eqb c 0x0A ≡ false → feed_at (c ∷ input) ≡ suc (feed_at input)
unfolding feed_at
feed_later c input e = pick-false _ _ _ e

pub feed_within : (input : List ℕ) → feed_at input ≤ length input
unfolding feed_at
feed_within [] = omega arith
feed_within (c ∷ input) = by (eqb c 0x0A) refl (feed_within input)
  where
    by : (b : Bool) → eqb c 0x0A ≡ b → feed_at input ≤ length input → feed_at (c ∷ input) ≤ suc (length input)
    by true e h = rw (feed_here c input e) (omega arith)
    by false e h = rw (feed_later c input e) (omega arith)

-- no line feed: all of it is of the line
pub heard_open : (input : List ℕ) (x : Talk) → feed_at input ≡ length input
    → talked x input ≡ quiet (with_reading x (accepted_all x.reading input))
unfolding talked accepted_all
heard_open [] x h = refl
heard_open (c ∷ input) x h = by (eqb c 0x0A) refl (heard_open input)
  where
    by : (b : Bool) → eqb c 0x0A ≡ b
        → ((y : Talk) → feed_at input ≡ length input → talked y input ≡ quiet (with_reading y (accepted_all y.reading input)))
        → talked x (c ∷ input) ≡ quiet (with_reading x (accepted_all (accepted x.reading c) input))
    by true e rest = absurd (let z = feed_here c input e in omega arith)
    by false e rest =
        let n = feed_later c input e in
        talked_plain x c input e ∙ rest (with_reading x (accepted x.reading c)) (omega arith)

quiet_behind : (s : Spoken) → spoken_behind s.text (talked s.talk []) ≡ s
unfolding talked spoken_behind
quiet_behind s = rw (append-nil s.text)

all_none : (x : Talk) → x ≡ with_reading x (accepted_all x.reading [])
unfolding accepted_all
all_none x = refl

all_more : (x : Talk) (c : ℕ) (text : List ℕ)
    → with_reading x (accepted_all (accepted x.reading c) text) ≡ with_reading x (accepted_all x.reading (c ∷ text))
unfolding accepted_all
all_more x c text = refl

-- a line feed: what is before it is the rest of the line, which is answered
pub heard_line : (input : List ℕ) (x : Talk) → feed_at input < length input
    → talked x (take (suc (feed_at input)) input) ≡ answered (with_reading x (accepted_all x.reading (take (feed_at input) input)))
heard_line [] x h = absurd (omega arith)
heard_line (c ∷ input) x h = by (eqb c 0x0A) refl (heard_line input)
  where
    here : eqb c 0x0A ≡ true → talked x (c ∷ []) ≡ answered x
    here e = talked_feed x c [] e ∙ quiet_behind (answered x)

    by : (b : Bool) → eqb c 0x0A ≡ b
        → ((y : Talk) → feed_at input < length input
        → talked y (take (suc (feed_at input)) input) ≡ answered (with_reading y (accepted_all y.reading (take (feed_at input) input))))
        → talked x (take (suc (feed_at (c ∷ input))) (c ∷ input))
        ≡ answered (with_reading x (accepted_all x.reading (take (feed_at (c ∷ input)) (c ∷ input))))
    by true e rest = rw (feed_here c input e) (here e ∙ ap answered (all_none x))
    by false e rest =
        let n = feed_later c input e in
        rw n (talked_plain x c (take (suc (feed_at input)) input) e
        ∙ rest (with_reading x (accepted x.reading c)) (omega arith) ∙ ap answered (all_more x c (take (feed_at input) input)))
