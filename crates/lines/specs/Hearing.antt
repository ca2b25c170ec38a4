-- What the functions that take the program's input promise: the parts that they are lent, put side by side, are where the program stands.
use Rattle.std.specs.Prelude.{ℕ, suc, min, ◌≡◌, List, [], ◌∷◌, length, replicate, eqb}
use Rattle.base.specs.Pick.{pick}
use Rattle.base.specs.Part.{splice}
use Rattle.hex_text.specs.Line.{line_now}
use Rattle.lines.specs.declared.talk.Session.{Session}
use Rattle.lines.specs.declared.talk.Heard.{Heard}
use Rattle.lines.specs.Talk.{Talk, Spoken}
use Rattle.lines.specs.Frames.{first_images}

abbrev pub talk_now : Session → (bytes area : List ℕ) → (images : List (List ℕ)) → Talk
talk_now session bytes area images =
    record { controller = session.controller; reading = line_now session.line bytes; area = area; images = images }

-- What a call leaves is this: the text stands at the front of the slice that was lent for it, whose rest stays.
abbrev pub Speaks : Spoken → Heard → (before text bytes area : List ℕ) → (images : List (List ℕ)) → Type 0
Speaks spoken heard before text bytes area images =
    (talk_now heard.session bytes area images ≡ spoken.talk)
    × (heard.length ≡ length spoken.text)
    × (text ≡ splice 0 spoken.text before)

-- The longest answer: number, status, message and 1,024 bytes of data, two digits a byte, and a line feed.
abbrev pub text_length : ℕ
text_length = 2055

-- The slices before the first character: zeros, as many as the program has of each.
abbrev pub AtFirst : (bytes area : List ℕ) → (images : List (List ℕ)) → Type 0
AtFirst bytes area images = (bytes ≡ replicate 1030 0) × (area ≡ replicate 1024 0) × (images ≡ first_images)

-- The characters before the first line feed: how many, or all where there is none.
unfoldable pub feed_at : (input : List ℕ) → ℕ
feed_at [] = 0
feed_at (c ∷ input) = pick (eqb c 0x0A) 0 (suc (feed_at input))

-- The characters up to and with the first line feed, or all.
unfoldable pub line_end : (input : List ℕ) → ℕ
line_end input = min (suc (feed_at input)) (length input)
