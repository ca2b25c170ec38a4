-- A call of a function whose contract is known, in a walk.
--     contract_of       the callee's contract as a triple
--     offers           what the callee's parameters own, beside their tokens, is what it asks, where its `requires` asks nothing
--     answered         once it has returned r: the tokens, the last values ws, and what it ensures of r and ws
--     routine_meets    a function that meets its contract wherever its one callee meets its own does so as a routine
-- The steps take `Logic`, and `routine_meets` what a routine's statement takes.
use mathlib.Core.Path.{◌≡◌}
use mathlib.Core.List.{List, [], ◌∷◌}
use seplogic.Ra.Ura.{Ura}
use mir.Syntax.{Fn}
use mir.Val.{Val}
use base.Logic.{ent, emp, id⊢}
use prog.Model.{Model}
use prog.Routine.{Callee, Routine, Env}
use prog.Wp.{WpFn, Tables, Closed}
use types.Logic.{Logic}
use types.Kit.{Goal, Soaks, Item, ‵, raw, ◌⊛◌, some, later, Seq, Step, step, ◌$◌, move, join, split, use0, use1, pick, await}
use contract.Lifetimes.{Lfts}
use contract.Running.{Running, tables, tables_of}
use denote.RattleType.{RattleType, owns}
use denote.Laws.{Is, shows}
use denote.Signature.{Signature, type_at, types_at}
use denote.Steps.{facts}
use denote.Triple.Entry.{Args, alive}
use denote.Triple.Statement.{Contract, Triple}
use denote.Triple.Spec.{Spec, Meets, triple_of}
use denote.Triple.Clauses.{Clauses, Ended, Lasts, lasts, at_exit, ensured, closing}
use denote.Triple.Table.{entered, cited}

module _ {M : Type 1} {𝓤 : Ura M} (𝓛 : Logic 𝓤) (T : Ended) (c : Clauses 𝓤 T) where
  abbrev pub contract_of : Contract 𝓤
  contract_of = triple_of 𝓛 T.signature (closing 𝓛 T c)

  -- what the callee is asked at the choice y of what its triple binds outside: the lifetimes, the arguments and their machine values
  module _ (y : contract_of.Ghost) where
    abbrev pub lives : Lfts T.signature.lifetimes
    lives = y.0.0

    abbrev pub arguments : Args T.signature lives
    arguments = y.0.3

    abbrev pub own_arguments : Item 𝓤
    own_arguments = ‵ (owns (types_at T.signature.params lives) arguments y.0.4)

    abbrev pub tokens : Item 𝓤
    tokens = raw (alive 𝓛 T.signature lives y.0.1)

    abbrev pub result_row : RattleType
    result_row = type_at T.signature.result lives

    abbrev pub ensured_by : result_row.Denot → Lasts T lives arguments → Item 𝓤
    ensured_by r ws = raw ((c lives arguments).ensures y.1 r (at_exit T lives arguments ws))

module _ {M : Type 1} {𝓤 : Ura M} {𝓛 : Logic 𝓤} {K : Type 0} {Γ : List (Item 𝓤)} {G : Goal 𝓤 𝓛.H} where
  module _ (T : Ended) (c : Clauses 𝓤 T) (y : (contract_of 𝓛 T c).Ghost) where
    pub offers : K → ent 𝓤 (emp 𝓤) ((c (lives 𝓛 T c y) (arguments 𝓛 T c y)).requires y.1)
        → Step K 𝓛 (raw ((contract_of 𝓛 T c).pre y) ∷ Γ) G (own_arguments 𝓛 T c y ∷ tokens 𝓛 T c y ∷ Γ) G
    offers t nothing-asked = step (λ s.
        move t (1 ∷ 0 ∷ []) $ join t $ use0 𝓛 (raw ((c (lives 𝓛 T c y) (arguments 𝓛 T c y)).requires y.1)) nothing-asked $
        move t (1 ∷ 0 ∷ []) $ join t $ use1 𝓛 (raw ((contract_of 𝓛 T c).pre y)) (id⊢ 𝓤 _) $ s)

    pub answered : K → Soaks G → (w : Val)
        → ((r : (result_row 𝓛 T c y).Denot) (ws : Lasts T (lives 𝓛 T c y) (arguments 𝓛 T c y)) → Is (result_row 𝓛 T c y) r (w ∷ [])
        → Seq K 𝓛 (tokens 𝓛 T c y ∷ ‵ (lasts T (lives 𝓛 T c y) (arguments 𝓛 T c y) ws) ∷ ensured_by 𝓛 T c y r ws ∷ Γ) G)
        → Seq K 𝓛 (raw ((contract_of 𝓛 T c).post y w) ∷ Γ) G
    answered t z w k =
        let R : RattleType = result_row 𝓛 T c y in
        let κs : Lfts T.signature.lifetimes = lives 𝓛 T c y in
        let a : Args T.signature κs = arguments 𝓛 T c y in
        use1 𝓛 (later (some (λ (r : R.Denot). (tokens 𝓛 T c y ⊛ ‵ (R.own_val r (w ∷ []))) ⊛ raw (ensured 𝓛 T c κs a y.1 r)))) (id⊢ 𝓤 _) $
        await t z $ pick t (λ r. split t $ move t (1 ∷ []) $
        use1 𝓛 (some (λ (ws : Lasts T κs a). ‵ (lasts T κs a ws) ⊛ ensured_by 𝓛 T c y r ws)) (id⊢ 𝓤 _) $ pick t (λ ws. split t $
        -- [the last values; what it ensures; the tokens and what the result owns]
        move t (2 ∷ []) $ split t $ move t (1 ∷ []) $ facts t R (Is R) (shows 𝓛 R) r (w ∷ []) (λ is. k r ws is)))

module _ {M : Type 1} {𝓤 : Ura M} (𝓛 : Logic 𝓤) (𝓜 : Model 𝓤 𝓛.H) (𝓡 : Running 𝓤 𝓛.H 𝓜) (S : Signature) (s : Spec 𝓤 S) where
  open 𝓛 use {H}

  pub routine_meets : (γ : Env) (self : Callee) (f : Fn) → Closed 𝓤 H (tables 𝓤 H 𝓜 𝓡 γ).C (tables 𝓤 H 𝓜 𝓡 γ).Λ self f
      → (c : Contract 𝓤) (callee : Callee) (r : Routine) → γ callee ≡ r → Triple 𝓤 (𝓡.run r) c
      → ((𝓣 : Tables 𝓤 H) → Triple 𝓤 (𝓣.C callee) c → Meets 𝓛 S (WpFn 𝓤 H 𝓣.C 𝓣.Λ f) s)
      → Meets 𝓛 S ((tables 𝓤 H 𝓜 𝓡 γ).C self) s
  unfolding tables_of
  routine_meets γ self f closed c callee r is known meets =
      entered 𝓤 H (triple_of 𝓛 S s) (tables 𝓤 H 𝓜 𝓡 γ).C (tables 𝓤 H 𝓜 𝓡 γ).Λ self f closed
      (meets (tables_of 𝓤 H 𝓜 (tables 𝓤 H 𝓜 𝓡 γ)) (cited 𝓤 H c 𝓜 𝓡 γ callee r is known))
