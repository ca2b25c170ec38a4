-- The program frames, whole: however its input is cut into pieces, what it says is what the lines of the input are answered by, one
-- after the other, a last line without a line feed among them.
use Prim.Native.Nat.{ℕ, ◌+◌}
use mathlib.Core.Path.{◌≡◌, refl, sym, ap, ◌∙◌}
use mathlib.Core.Bool.{Bool, true, false}
use mathlib.Core.List.{List, [], ◌∷◌, ◌++◌, append_assoc, append-nil}
use native.Mathlib.Omega.{arith}
use lib.ListN.{length, replicate, length-replicate}
use lib.Dec.{eqb}
use borrow.Author.Tests.{lt-ltb}
use Rattle.base.specs.Pick.{pick}
use Rattle.base.proofs.Decide.{pick_true, pick-false}
use Rattle.hex_text.specs.Line.{Reading, line_now, started, spoilt, spoilt_line, accepted, accepted_all, is_begun, whole_of, line_of}
use Rattle.hex_text.proofs.Lines.{line_read}
use Rattle.hex_text.proofs.Rooms.{accepted_by, all_length, all_append}
use Rattle.lines.specs.Said.{Said, line_said}
use Rattle.lines.specs.Talk.{Talk, Spoken, answered, talked, closed}
use Rattle.lines.specs.Frames.{with_first, lines_of, said_behind, lines_said, frames_said, first_talk, spoken_behind, joined, end_said, pieces_said}
use Rattle.lines.proofs.Talks.{with_reading, quiet, talked_pieces, talked_plain, talked_feed}

-- ---- a line of which a character is read has begun
begun_one : (x : Reading) (c : ℕ) → is_begun (accepted x c).line ≡ true
unfolding is_begun spoilt spoilt_line
begun_one x c =
    accepted_by (λ y. is_begun y.line ≡ true) x c (λ e. rw e) refl (λ _ _. refl) (λ _ _ _. lt-ltb 0 (x.line.count + 1) (omega arith))

begun_more : (text : List ℕ) (x : Reading) (c : ℕ) → is_begun (accepted_all x (c ∷ text)).line ≡ true
unfolding accepted_all
begun_more [] x c = begun_one x c
begun_more (d ∷ text) x c = begun_more text (accepted x c) d

-- ---- the lines of an input
-- no line feed is among the characters
data Plain : List ℕ → Type 0 where
  none_yet : Plain []
  one_more : {c : ℕ} {text : List ℕ} → eqb c 0x0A ≡ false → Plain text → Plain (c ∷ text)

plain_snoc : (text : List ℕ) (c : ℕ) → Plain text → eqb c 0x0A ≡ false → Plain (text ++ (c ∷ []))
plain_snoc [] c none_yet e = one_more e none_yet
plain_snoc (d ∷ text) c (one_more f rest) e = one_more f (plain_snoc text c rest e)

lines_plain : (c : ℕ) (input : List ℕ) → eqb c 0x0A ≡ false → lines_of (c ∷ input) ≡ with_first c (lines_of input)
unfolding lines_of
lines_plain c input e = pick-false _ _ _ e

-- up to a line feed
lines_feed : (text : List ℕ) (c : ℕ) (input : List ℕ) → Plain text → eqb c 0x0A ≡ true → lines_of (text ++ (c ∷ input)) ≡ text ∷ lines_of input
unfolding lines_of with_first
lines_feed [] c input none_yet e = pick_true _ _ _ e
lines_feed (d ∷ text) c input (one_more f rest) e = lines_plain d (text ++ (c ∷ input)) f ∙ ap (with_first d) (lines_feed text c input rest e)

-- a last one without
lines_last : (c : ℕ) (text : List ℕ) → Plain (c ∷ text) → lines_of (c ∷ text) ≡ (c ∷ text) ∷ []
unfolding lines_of with_first
lines_last c [] (one_more e none_yet) = lines_plain c [] e
lines_last c (d ∷ text) (one_more e rest) = lines_plain c (d ∷ text) e ∙ ap (with_first c) (lines_last d text rest)

-- ---- text behind text
said_said : (a b : List ℕ) (s : Said) → said_behind (a ++ b) s ≡ said_behind a (said_behind b s)
unfolding said_behind
said_said a b s = rw (append_assoc a b s.text)

lines_behind : (room : ℕ) (text : List ℕ) (lines : List (List ℕ)) (before : Said)
    → lines_said room (said_behind text before) lines ≡ said_behind text (lines_said room before lines)
unfolding lines_said said_behind
lines_behind room text [] before = refl
lines_behind room text (line ∷ lines) before =
    let said = line_said before.controller (line_of room line) before.area before.images in
    ap (λ (s : Said). lines_said room s lines) (said_said text before.text said)
    ∙ lines_behind room text lines (said_behind before.text said)

end_behind : (text : List ℕ) (s : Spoken) → end_said (spoken_behind text s) ≡ said_behind text (end_said s)
unfolding end_said spoken_behind said_behind
end_behind text s = rw (append_assoc text s.text (closed s.talk).text)

-- ---- from any character on: `text` is what has been read of the line under way
abbrev said_so_far : Talk → Said
said_so_far x = record { controller = x.controller; text = []; area = x.area; images = x.images }

module _ (room : ℕ) where
  record Reads (x : Talk) (text : List ℕ) : Type 0 where
    plain : Plain text
    bytes : List ℕ
    enough : length bytes ≡ room
    is : x.reading ≡ accepted_all (line_now started bytes) text

  abbrev Ends : Talk → (text input : List ℕ) → Type 0
  Ends x text input = end_said (talked x input) ≡ lines_said room (said_so_far x) (lines_of (text ++ input))

  module _ (x : Talk) (text : List ℕ) (r : Reads x text) where
    whole_is : whole_of x.reading ≡ line_of room text
    whole_is = rw r.is (line_read text r.bytes ∙ rw r.enough)

    -- what the line is answered by
    said_is : line_said x.controller (whole_of x.reading) x.area x.images
        ≡ line_said x.controller (line_of room text) x.area x.images
    said_is = rw whole_is

    -- the next line is read from its start
    reads_next : Reads (answered x).talk []
    unfolding answered accepted_all
    reads_next = record {
      plain = none_yet;
      bytes = x.reading.bytes;
      enough = rw r.is (all_length (line_now started r.bytes) text) ∙ r.enough;
      is = refl;
    }

    reads_more : (c : ℕ) → eqb c 0x0A ≡ false → Reads (with_reading x (accepted x.reading c)) (text ++ (c ∷ []))
    unfolding accepted_all
    reads_more c e = record {
      plain = plain_snoc text c r.plain e;
      bytes = r.bytes;
      enough = r.enough;
      is = ap (λ (y : Reading). accepted y c) r.is ∙ sym (all_append (line_now started r.bytes) text (c ∷ []));
    }

    -- the input ends in a line that has begun
    end_line : is_begun x.reading.line ≡ true → lines_of text ≡ text ∷ [] → Ends x text []
    unfolding end_said talked closed answered lines_said said_behind
    end_line begun one =
        rw (append-nil text, one) (rw (pick_true (is_begun x.reading.line) (answered x) (quiet x) begun) (said_is))

    -- a line feed
    step_feed : (c : ℕ) (input : List ℕ) → eqb c 0x0A ≡ true → Ends (answered x).talk [] input → Ends x text (c ∷ input)
    unfolding answered lines_said said_behind
    step_feed c input e next =
        let said = line_said x.controller (whole_of x.reading) x.area x.images in
        ap end_said (talked_feed x c input e)
        ∙ end_behind said.text (talked (answered x).talk input)
        ∙ ap (said_behind said.text) next
        ∙ sym (lines_behind room said.text (lines_of input) (said_so_far (answered x).talk))
        ∙ rw (lines_feed text c input r.plain e, append-nil said.text, said_is)

    -- any other character
    step_plain : (c : ℕ) (input : List ℕ) → eqb c 0x0A ≡ false → Ends (with_reading x (accepted x.reading c)) (text ++ (c ∷ [])) input
        → Ends x text (c ∷ input)
    step_plain c input e next =
        ap end_said (talked_plain x c input e) ∙ next
        ∙ ap (λ (t : List ℕ). lines_said room (said_so_far x) (lines_of t)) (append_assoc text (c ∷ []) input)

  -- the input ends
  ends_here : (x : Talk) (text : List ℕ) → Reads x text → Ends x text []
  unfolding end_said talked closed is_begun accepted_all lines_of lines_said pick
  ends_here x [] r = rw r.is
  ends_here x (c ∷ text) r = end_line x (c ∷ text) r (rw r.is (begun_more text _ c)) (lines_last c text r.plain)

  ends : (input : List ℕ) (x : Talk) (text : List ℕ) → Reads x text → Ends x text input
  ends [] x text r = ends_here x text r
  ends (c ∷ input) x text r = by (eqb c 0x0A) refl (ends input)
    where
      by : (b : Bool) → eqb c 0x0A ≡ b → ((y : Talk) (t : List ℕ) → Reads y t → Ends y t input) → Ends x text (c ∷ input)
      by true e rest = step_feed x text r c input e (rest _ _ (reads_next x text r))
      by false e rest = step_plain x text r c input e (rest _ _ (reads_more x text r c e))

-- ---- from the start, and in any pieces
reads_first : Reads 1030 first_talk []
unfolding first_talk accepted_all
reads_first = record { plain = none_yet; bytes = replicate 1030 0; enough = length-replicate {A = ℕ} 1030 0; is = refl }

talk_said : (input : List ℕ) → end_said (talked first_talk input) ≡ frames_said input
unfolding frames_said first_talk
talk_said input = ends 1030 input first_talk [] reads_first

pub frames_said_lem : (pieces : List (List ℕ)) → pieces_said pieces ≡ frames_said (joined pieces)
unfolding pieces_said
frames_said_lem pieces = ap end_said (talked_pieces first_talk pieces) ∙ talk_said (joined pieces)
