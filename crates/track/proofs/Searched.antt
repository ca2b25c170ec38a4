-- What a search leaves, as its caller uses it: the slot noted for a sector is the one that is used.
use mathlib.Core.Path.{◌≡◌, refl, sym, ap, ◌∙◌}
use mathlib.Core.Bool.{true≢false}
use mathlib.Core.Option as Math
use mathlib.Core.Option.{none, some}
use Rattle.std.specs.Option.{is_some, unwrap_or}
use Rattle.std.specs.declared.option.Option.TheVariants.{Some, None}
use mathlib.Core.List.{List}
use Prim.Native.Nat.{ℕ, ◌<◌}
use lib.ListN.{get_or}
use Rattle.geometry.specs.declared.params.Params.{Params}
use Rattle.track.specs.Find.{slot_used}
use Rattle.track.specs.Search.{Note, note_of}
use Rattle.track.proofs.Notes.{Found}
use Rattle.track.proofs.Used.{used_holds}

note_none : (o : Math.Option ℕ) → note_of o ≡ None → o ≡ none
unfolding note_of
note_none none e = refl
note_none (some k) e = absurd (true≢false (ap is_some e))

note_some : (o : Math.Option ℕ) (k : ℕ) → note_of o ≡ Some k → o ≡ some k
unfolding note_of
note_some none k e = absurd (true≢false (sym (ap is_some e)))
note_some (some j) k e = ap (λ (n : Note). some (unwrap_or n 0)) e

module _ (p : Params) (bytes : List ℕ) (slots : List Note) (looked s : ℕ) (f : Found p bytes slots looked s) where
  pub slot_none : get_or slots s None ≡ None → slot_used p s bytes ≡ none
  slot_none e = note_none (slot_used p s bytes) (sym f.3 ∙ e)

  pub slot_some : (k : ℕ) → get_or slots s None ≡ Some k → slot_used p s bytes ≡ some k
  slot_some k e = note_some (slot_used p s bytes) k (sym f.3 ∙ e)

  pub slot_in : (k : ℕ) → get_or slots s None ≡ Some k → k < p.sectors
  slot_in k e = (used_holds p s bytes k (slot_some k e)).0
