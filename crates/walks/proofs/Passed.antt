-- Parameters that are passed on to a callee, each as it was passed.
--     Spelled R        a type whose machine values are told by what it denotes, with its laws
--     Spelleds, spells, tellss, lawfuls    of a list of types
--     shared_slice, lent_slice     a `&[u8]` and a `&mut [u8]` are such
--     lent_again_typed     a `&mut [u8]` that is lent again is of its type
--     passed_on, all_passed_on     what is had at exit of a parameter that was passed on: what the callee says of its last value
--     fits_on, had_on, all_go      the laws for it
-- The laws take `Logic`. The rest assumes nothing.
use mathlib.Core.Path.{◌≡◌, refl}
use Prim.Native.Nat.{ℕ}
use mathlib.Core.List.{List, [], ◌∷◌}
use seplogic.Ra.Ura.{Ura}
use mir.Syntax.{Lifetime, erased}
use mir.Val.{Val}
use base.Fml.{Lft, fsep}
use types.Logic.{Logic, sem}
use contract.Lifetimes.{Lfts}
use denote.RattleType.{RattleType, Denots, Valss}
use denote.Laws.{Is, Ises, Typed, Tells, Tellss, Spells, Lawful, Lawfuls}
use denote.Builtin.{u8}
use denote.Ref.{MutBor}
use denote.Slice.{shr_slice_vals, mut_slice_vals, ShrSlice, MutSlice, shr_slice_Tells, mut_slice_Tells, shr_slice_Lawful, mut_slice_Lawful}
use denote.Exit.{Kept, left}
use denote.Signature.{Slot, types_at}
use denote.Triple.End.{Kepts, Fins, lasts_of}
use denote.Triple.Walked.{Stay, Stays, AllGo, fits_of, has_of}

-- ---- machine values
pub record Spelled (R : RattleType) : Type 2 where
  pub vals : R.Denot → List Val
  pub tells : Tells R (Is R) vals
  pub lawful : {M : Type 1} {𝓤 : Ura M} (𝓛 : Logic 𝓤) → Lawful 𝓛 R

abbrev pub Spelleds : List RattleType → Type 2
Spelleds [] = Unit {2}
Spelleds (R ∷ Rs) = Spelled R × Spelleds Rs

abbrev pub spells : (Rs : List RattleType) → Spelleds Rs → Spells Rs
spells [] sp = tt
spells (R ∷ Rs) sp = (sp.0.vals, spells Rs sp.1)

abbrev pub tellss : (Rs : List RattleType) (sp : Spelleds Rs) → Tellss Rs (Ises Rs) (spells Rs sp)
tellss [] sp = tt
tellss (R ∷ Rs) sp = (sp.0.tells, tellss Rs sp.1)

module _ {M : Type 1} {𝓤 : Ura M} (𝓛 : Logic 𝓤) where
  abbrev pub lawfuls : (Rs : List RattleType) → Spelleds Rs → Lawfuls 𝓛 Rs
  lawfuls [] sp = tt
  lawfuls (R ∷ Rs) sp = (sp.0.lawful 𝓛, lawfuls Rs sp.1)

  -- MIR leaves out the lifetime of what is lent again. Neither what is known of a slice nor its machine value depends on it
  pub lent_again_typed : (x : MutBor (List ℕ)) → Is (MutSlice erased [] u8) x (mut_slice_vals x) → Typed (MutSlice erased [] u8).mir (mut_slice_vals x)
  lent_again_typed x is = (mut_slice_Lawful 𝓛 erased [] u8).typed x (mut_slice_vals x) is

module _ (ℓ : Lifetime) (κ : Lft) where
  abbrev pub shared_slice : Spelled (ShrSlice ℓ κ u8)
  shared_slice = record {
    vals = shr_slice_vals;
    tells = shr_slice_Tells ℓ κ u8;
    lawful = λ 𝓛. shr_slice_Lawful 𝓛 ℓ κ u8;
  }

  abbrev pub lent_slice : Spelled (MutSlice ℓ κ u8)
  lent_slice = record {
    vals = mut_slice_vals;
    tells = mut_slice_Tells ℓ κ u8;
    lawful = λ 𝓛. mut_slice_Lawful 𝓛 ℓ κ u8;
  }

-- ---- at exit
abbrev pub passed_on : {n : ℕ} (s : Slot n) (k : Kept) → Stay s k
passed_on s k = record { fit = λ κs x f. Unit {0}; has = λ κs x f vs. left ((s.row κs).exit k) x f }

abbrev pub all_passed_on : {n : ℕ} (ss : List (Slot n)) (ks : Kepts ss) → Stays ss ks
all_passed_on [] ks = tt
all_passed_on (s ∷ ss) ks = (passed_on s ks.0, all_passed_on ss ks.1)

module _ {n : ℕ} (κs : Lfts n) where
  pub fits_on : (ss : List (Slot n)) (ks : Kepts ss) (a : Denots (types_at ss κs)) (ws : Fins κs ss ks a)
      → fits_of κs ss ks (all_passed_on ss ks) a ws
  fits_on [] ks a ws = tt
  fits_on (s ∷ ss) ks a ws = (tt, fits_on ss ks.1 a.1 ws.1)

  pub had_on : (ss : List (Slot n)) (ks : Kepts ss) (a : Denots (types_at ss κs)) (ws : Fins κs ss ks a) (vss : Valss (types_at ss κs))
      → lasts_of κs ss ks a ws ≡ has_of κs ss ks (all_passed_on ss ks) a ws vss
  had_on [] ks a ws vss = refl
  had_on (s ∷ ss) ks a ws vss = λ i. fsep (left ((s.row κs).exit ks.0) a.0 ws.0) (had_on ss ks.1 a.1 ws.1 vss.1 i)

module _ {M : Type 1} {𝓤 : Ura M} (𝓛 : Logic 𝓤) (n : ℕ) where
  pub all_go : (ss : List (Slot n)) (ks : Kepts ss) → AllGo 𝓛 n ss ks (all_passed_on ss ks)
  all_go [] ks = tt
  all_go (s ∷ ss) ks = (λ κs x f vs fits. 𝓛.laws.⇛_intro (sem 𝓛 (left ((s.row κs).exit ks.0) x f)), all_go ss ks.1)
