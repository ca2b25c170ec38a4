-- What holds between two calls: the slices lent are where an input from the start has left the program, and what was said is written.
use Prim.Native.Nat.{ℕ, ◌+◌, ◌-◌, ◌≤◌, ◌<◌}
use mathlib.Core.Path.{◌≡◌, refl, sym, ap, ◌∙◌}
use mathlib.Core.List.{List, [], ◌∷◌, ◌++◌, append_assoc, append-nil}
use native.Mathlib.Omega.{arith}
use lib.ListN.{length, take, drop, replicate, length-take, length-drop, take-append-drop, drop_of_length-le}
use lib.Seq.{take_all, take-take, take-add}
use Rattle.std.specs.Prelude.{Option, Result, Ok, Err, OnOk, OnErr}
use Rattle.std.specs.Io.KnownBytes.{Appends, Consumes, Keeps, IsAtEnd}
use Rattle.std.proofs.KnownBytes.{Appends-nil, Appends-trans, Appends-kept, Consumes-nil, Consumes-trans, Consumes-kept}
use Rattle.model.specs.Engine.{images_of}
use Rattle.lines.specs.declared.talk.Heard.{Heard}
use Rattle.lines.specs.Said.{Said}
use Rattle.lines.specs.Talk.{Talk, Spoken, talked, closed}
use Rattle.lines.specs.Frames.{first_images, first_talk, spoken_behind, Talking, joined, pieces_said, frames_said, end_said}
use Rattle.lines.specs.Hearing.{Speaks, talk_now, AtFirst, line_end}
use Rattle.lines.proofs.AnswerTexts.{front_fits, front_taken}
use Rattle.lines.proofs.Standing.{talking_on}
use Rattle.lines.proofs.Talks.{talked_cut, talked_pieces}
use Rattle.lines.proofs.Programs.{frames_said_lem}
use Rattle.frames.specs.Onward.{WritesFront, Onward, CutOff, Served, CutAtEnd}

-- ---- what `hear` leaves
pub heard_on : {x : Talk} (heard : Heard) (input before text bytes area : List ℕ) (images : List (List ℕ)) → Talking x
    → Speaks (talked x input) heard before text bytes area images → Talking (talk_now heard.session bytes area images)
heard_on heard input before text bytes area images t s = talking_on _ input t s.0

pub heard_fits : (spoken : Spoken) (heard : Heard) (before text bytes area : List ℕ) (images : List (List ℕ))
    → Speaks spoken heard before text bytes area images → heard.length ≤ length text
heard_fits spoken heard before text bytes area images s = front_fits spoken.text before text heard.length s.1 s.2

-- the text that is said stands at the front of its slice
pub heard_text : (spoken : Spoken) (heard : Heard) (before text bytes area : List ℕ) (images : List (List ℕ))
    → Speaks spoken heard before text bytes area images → take heard.length text ≡ spoken.text
heard_text spoken heard before text bytes area images s = front_taken spoken.text before text heard.length s.1 s.2

-- ---- what is left of the input is taken up to the line's end: something of it, and no more than there is
pub taken_part : (rest : List ℕ) (n : ℕ) → 0 < length rest → n ≡ line_end rest → (0 < n) × (n ≤ length rest)
unfolding line_end
taken_part rest n h e = (omega arith, omega arith)

pub left_less : (rest : List ℕ) (n : ℕ) → (0 < n) × (n ≤ length rest) → length (take (length rest - n) (drop n rest)) < length rest
left_less rest n part = simp (length-take, length-drop) (omega (arith, part.0, part.1))

-- ---- texts that are written one behind the other
pub front_all : {held holds : Option (List ℕ)} {text : List ℕ} → Appends held holds text → WritesFront held holds text
front_all {text} h = record { front = text; rest = []; is = sym (append-nil text); written = h }

-- behind what is written, a front of the next text
pub front_behind : (held mid holds : Option (List ℕ)) (said text later : List ℕ) → Appends held mid said → WritesFront mid holds text
    → WritesFront held holds (said ++ (text ++ later))
front_behind held mid holds said text later h f = record {
  front = said ++ f.front;
  rest = f.rest ++ later;
  is = rw (f.is, append_assoc f.front f.rest later) (sym (append_assoc said f.front (f.rest ++ later)));
  written = Appends-trans held mid holds said f.front h f.written;
}

-- ---- `say`: a front of the text is written, and then some more
pub say_part : (text : List ℕ) (n done : ℕ) (held holds : Option (List ℕ)) → done ≤ n → Appends held holds (take done text)
    → WritesFront held holds (take n text)
say_part text n done held holds within h =
    let e : n ≡ done + (n - done) = omega arith in
    record {
      front = take done text;
      rest = take (n - done) (drop done text);
      is = ap (λ (m : ℕ). take m text) e ∙ take-add done (n - done) text;
      written = h;
    }

pub say_kept : (text : List ℕ) (n done : ℕ) (held mid holds : Option (List ℕ)) → done ≤ n → Appends held mid (take done text) → Keeps mid holds
    → WritesFront held holds (take n text)
say_kept text n done held mid holds within h k = say_part text n done held holds within (Appends-kept held mid holds (take done text) h k)

pub say_more : (text : List ℕ) (n done more : ℕ) (held mid holds : Option (List ℕ)) → done ≤ n → n ≤ length text → Appends held mid (take done text)
    → more ≤ length (take (n - done) (drop done text)) → Appends mid holds (take more (take (n - done) (drop done text)))
    → (done + more ≤ n) × Appends held holds (take (done + more) text)
say_more text n done more held mid holds within fits h m a =
    let l : length (take (n - done) (drop done text)) ≡ n - done = rw (length-take, length-drop) (omega arith) in
    let e : take more (take (n - done) (drop done text)) ≡ take more (drop done text) = take-take more (n - done) (drop done text) (omega arith) in
    (omega arith, rw (take-add done more text, ← e) (Appends-trans held mid holds (take done text) _ h a))

-- ---- of what is said to an input, `said` is written, and `rest` is still to be heard
pub record Fed (whole : Spoken) (held holds : Option (List ℕ)) (here : Talk) (rest : List ℕ) : Type 0 where
  pub said : List ℕ
  pub written : Appends held holds said
  pub is : spoken_behind said (talked here rest) ≡ whole

pub fed_first : (held : Option (List ℕ)) (x : Talk) (input : List ℕ) → Fed (talked x input) held held x input
unfolding spoken_behind
fed_first held x input = record { said = []; written = Appends-nil held; is = refl }

behind_behind : (a b : List ℕ) (s : Spoken) → spoken_behind (a ++ b) s ≡ spoken_behind a (spoken_behind b s)
unfolding spoken_behind
behind_behind a b s = rw (append_assoc a b s.text)

module _ (whole : Spoken) (held holds : Option (List ℕ)) (x : Talk) (rest : List ℕ) (f : Fed whole held holds x rest) where
  module _ (at_end : length rest ≡ 0) where
    fed_all : spoken_behind f.said (record { talk = x; text = [] }) ≡ whole
    unfolding talked
    fed_all = rw (drop_of_length-le rest {i = 0} (omega arith)) at f.is

    pub fed_talk : x ≡ whole.talk
    unfolding spoken_behind
    fed_talk = ap (λ (s : Spoken). s.talk) fed_all

    pub fed_text : Appends held holds whole.text
    unfolding spoken_behind
    fed_text =
        let e : whole.text ≡ f.said ++ [] = sym (ap (λ (s : Spoken). s.text) fed_all) in
        rw (e, append-nil f.said) f.written

  module _ (n : ℕ) where
    abbrev line : List ℕ
    line = take n rest

    -- the line is heard, and then the rest
    cut : spoken_behind f.said (spoken_behind (talked x line).text (talked (talked x line).talk (drop n rest))) ≡ whole
    cut = ap (spoken_behind f.said) (sym (talked_cut x line (drop n rest)) ∙ ap (talked x) (take-append-drop n rest)) ∙ f.is

    pub fed_more : (y : Talk) (now : Option (List ℕ)) → y ≡ (talked x line).talk → Appends holds now (talked x line).text
        → Fed whole held now y (take (length rest - n) (drop n rest))
    fed_more y now e a =
        rw (take_all (length rest - n) (drop n rest) (simp length-drop (omega arith)))
        (record {
          said = f.said ++ (talked x line).text;
          written = Appends-trans held holds now f.said (talked x line).text f.written a;
          is = rw e (behind_behind f.said (talked x line).text (talked (talked x line).talk (drop n rest)) ∙ cut);
        })

    pub fed_cut : (now : Option (List ℕ)) → WritesFront holds now (talked x line).text → WritesFront held now whole.text
    unfolding spoken_behind
    fed_cut now w =
        rw (sym (ap (λ (s : Spoken). s.text) cut))
        (front_behind held holds now f.said (talked x line).text (talked (talked x line).talk (drop n rest)).text f.written w)

-- ---- piece after piece
pub onward_none : (x : Talk) (given held : Option (List ℕ)) → Onward x x given given held held
unfolding talked
onward_none x given held = record { heard = []; is = refl; read = Consumes-nil given; written = Appends-nil held }

module _ {from here : Talk} {given left held holds : Option (List ℕ)} (o : Onward from here given left held holds) (left' holds' : Option (List ℕ)) (input : List ℕ) (read : Consumes left left' input) where
  on : talked from (o.heard ++ input) ≡ spoken_behind (talked from o.heard).text (talked here input)
  on = talked_cut from o.heard input ∙ rw (sym o.is) refl

  pub onward_more : (next : Talk) → next ≡ (talked here input).talk → Appends holds holds' (talked here input).text
      → Onward from next given left' held holds'
  unfolding spoken_behind
  onward_more next e a = record {
    heard = o.heard ++ input;
    is = e ∙ sym (ap (λ (s : Spoken). s.talk) on);
    read = Consumes-trans given left left' o.heard input o.read read;
    written = rw on (Appends-trans held holds holds' (talked from o.heard).text (talked here input).text o.written a);
  }

  pub onward_cut : WritesFront holds holds' (talked here input).text → CutOff from given left' held holds'
  unfolding spoken_behind
  onward_cut w = record {
    heard = o.heard ++ input;
    read = Consumes-trans given left left' o.heard input o.read read;
    written = rw (on, sym (append-nil (talked here input).text)) (front_behind held holds holds' (talked from o.heard).text (talked here input).text [] o.written w);
  }

-- a read has failed
pub onward_kept : {from here : Talk} {given left held holds : Option (List ℕ)} → Onward from here given left held holds
    → (left' : Option (List ℕ)) → Keeps left left' → CutOff from given left' held holds
onward_kept {given} {left} o left' k = record { heard = o.heard; read = Consumes-kept given left left' o.heard o.read k; written = front_all o.written }

-- the reader has found the end
pub onward_read : {from here : Talk} {given left held holds : Option (List ℕ)} → Onward from here given left held holds
    → (left' : Option (List ℕ)) → Consumes left left' [] → Onward from here given left' held holds
onward_read {given} {left} o left' r = record {
  heard = o.heard;
  is = o.is;
  read = rw (append-nil o.heard) at (Consumes-trans given left left' o.heard [] o.read r);
  written = o.written;
}

-- what holds after an `Ok` holds where it is one, and after an `Err`
pub gone_on : {T E P : Type 0} {r : Result T E} {v : T} → r ≡ Ok v → OnOk r P → P
gone_on e h = rw e at h

pub gone_off : {T E P : Type 0} {r : Result T E} {v : E} → r ≡ Err v → OnErr r P → P
gone_off e h = rw e at h

-- ---- the whole program
-- what a session that has ended says, from where the pieces left it
said_whole : (heard : List ℕ) → (talked first_talk heard).text ++ (closed (talked first_talk heard).talk).text ≡ (frames_said heard).text
unfolding joined pieces_said end_said
said_whole heard =
    let one : joined (heard ∷ []) ≡ heard = append-nil heard in
    ap (λ (s : Said). s.text)
    (ap end_said (ap (talked first_talk) (sym one) ∙ sym (talked_pieces first_talk (heard ∷ [])))
    ∙ frames_said_lem (heard ∷ []) ∙ ap frames_said one)

module _ {from here : Talk} {given left held holds : Option (List ℕ)} (first : from ≡ first_talk) (o : Onward from here given left held holds)
    (ended : IsAtEnd left) (holds' : Option (List ℕ)) (text : List ℕ) (e : text ≡ (closed here).text) where
  there : here ≡ (talked first_talk o.heard).talk
  there = rw (sym first) o.is

  said : (talked from o.heard).text ++ text ≡ (frames_said o.heard).text
  said = rw (e, first, there) (said_whole o.heard)

  pub served : Appends holds holds' text → Served given left held holds'
  served a = record {
    heard = o.heard;
    read = o.read;
    ended = ended;
    written = rw (sym said) (Appends-trans held holds holds' (talked from o.heard).text text o.written a);
  }

  pub cut_at_end : WritesFront holds holds' text → CutAtEnd given left held holds'
  cut_at_end w = record {
    heard = o.heard;
    read = o.read;
    ended = ended;
    written =
        rw (sym said, sym (append-nil text))
        (front_behind held holds holds' (talked from o.heard).text text [] o.written w);
  }

-- ---- the slices
pub at_first : AtFirst (replicate 1030 0) (replicate 1024 0) (images_of (replicate 25360 0) (replicate 25360 0) [] [])
unfolding first_images
at_first = (refl, refl, refl)
