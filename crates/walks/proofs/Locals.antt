-- A function's locals, all at once: they are allocated and the arguments stored in the first of them, and at the end they are freed.
--     Blocks ls, spots ls bs       a block for each local; each local's type and block
--     cells E vs Γ     in front of Γ, the last local first: each local's cell, and what frees it. The values vs are in the first locals, the
--                      others are room.        called_with      the same, with room for the result before the values
--     Suits ls vs      the values are of the types of the locals after the result
--     starts           a function's body runs on such cells
--     frees_all        from entry n on the context is the locals' cells: they are freed
-- The rules take `Logic`. The rest assumes nothing.
use mathlib.Core.Path.{◌≡◌, subst}
use Prim.Native.Nat.{ℕ, zero, suc}
use mathlib.Core.List.{List, [], ◌∷◌}
use seplogic.Ra.Ura.{Ura}
use base.Fraction.{full_share}
use lib.Dec.{T}
use mir.Syntax.{Ty, Local, local, Fn}
use mir.Val.{Val, WT, has_ty}
use base.Logic.{SProp, ent, sep, emp, id⊢, via, fst∗, emp∗, assoc', mono_l, mono_r}
use base.Fml.{fat, froom, fdies}
use prog.Wp.{Env, Calls, Loops, WpFn, pass, release}
use types.Logic.{Logic}
use types.Kit.{Item, ‵, raw, ◌⊛◌, mean, ⋆, pop, push, Goal, runs, frees, allocs, params', prop, at_ret, aim, Seq, Step, step}
use types.Kit.{◌$◌, ◌∵◌, !, qed, by, move, split, join, use1, use2, check, assume, frame, done}
use types.Run.{enter, alloc1, alloc0}

abbrev pub Blocks : List Local → Type 0
Blocks [] = Unit {0}
Blocks (l ∷ ls) = ℕ × Blocks ls

-- the values are of the first locals' types
abbrev Fill : List Local → List Val → Type 0
Fill ls [] = Unit {0}
Fill [] (v ∷ vs) = ⊥
Fill (local τ h ∷ ls) (v ∷ vs) = (T (has_ty τ v) × WT v) × Fill ls vs

abbrev pub Suits : List Local → List Val → Type 0
Suits [] vs = ⊥
Suits (result ∷ ls) vs = Fill ls vs

module _ {M : Type 1} {𝓤 : Ura M} (𝓛 : Logic 𝓤) where
  open 𝓛 use {H}

  abbrev pub spots : (ls : List Local) → Blocks ls → Env 𝓤 H
  spots [] bs = []
  spots (local τ h ∷ ls) bs = (τ, bs.0) ∷ spots ls bs.1

  abbrev pub cells : Env 𝓤 H → List Val → List (Item 𝓤) → List (Item 𝓤)
  cells [] vs Γ = Γ
  cells (e ∷ E) [] Γ = cells E [] (‵ (froom e.0 e.1 zero) ∷ ‵ (fdies e.0 e.1) ∷ Γ)
  cells (e ∷ E) (v ∷ vs) Γ = cells E vs (‵ (fat full_share e.0 e.1 zero v) ∷ ‵ (fdies e.0 e.1) ∷ Γ)

  abbrev pub called_with : Env 𝓤 H → List Val → List (Item 𝓤) → List (Item 𝓤)
  called_with [] vs Γ = Γ
  called_with (e ∷ E) vs Γ = cells E vs (‵ (froom e.0 e.1 zero) ∷ ‵ (fdies e.0 e.1) ∷ Γ)

  -- ---- a context in two parts
  abbrev pub front : ℕ → List (Item 𝓤) → List (Item 𝓤)
  front zero Γ = []
  front (suc n) [] = []
  front (suc n) (i ∷ Γ) = i ∷ front n Γ

  abbrev pub beyond : ℕ → List (Item 𝓤) → List (Item 𝓤)
  beyond zero Γ = Γ
  beyond (suc n) [] = []
  beyond (suc n) (i ∷ Γ) = beyond n Γ

  parted : (n : ℕ) (Γ : List (Item 𝓤)) → ent 𝓤 (⋆ 𝓛 Γ) (sep 𝓤 (⋆ 𝓛 (front n Γ)) (⋆ 𝓛 (beyond n Γ)))
  parted zero Γ = emp∗ 𝓤 (⋆ 𝓛 Γ)
  parted (suc n) [] = emp∗ 𝓤 (emp 𝓤)
  parted (suc n) (i ∷ Γ) =
      via 𝓤 _ (pop 𝓛 i Γ) (via 𝓤 _ (mono_r 𝓤 (mean 𝓛 i) (parted n Γ))
      (via 𝓤 _ (assoc' 𝓤 (mean 𝓛 i) (⋆ 𝓛 (front n Γ)) (⋆ 𝓛 (beyond n Γ)))
      (mono_l 𝓤 (⋆ 𝓛 (beyond n Γ)) (push 𝓛 i (front n Γ)))))

  -- ---- an entry that stands behind those that c puts in front is taken out, and put back
  record Reach (c : List (Item 𝓤) → List (Item 𝓤)) : Type 2 where
    out : (i : Item 𝓤) (Γ : List (Item 𝓤)) → ent 𝓤 (⋆ 𝓛 (c (i ∷ Γ))) (sep 𝓤 (mean 𝓛 i) (⋆ 𝓛 (c Γ)))
    back : (i : Item 𝓤) (Γ : List (Item 𝓤)) → ent 𝓤 (sep 𝓤 (mean 𝓛 i) (⋆ 𝓛 (c Γ))) (⋆ 𝓛 (c (i ∷ Γ)))

  module _ where
    past_two : (c : List (Item 𝓤) → List (Item 𝓤)) → Reach c → (x y : Item 𝓤) → Reach (λ Γ. c (x ∷ y ∷ Γ))
    past_two c reach x y = record {
      out = λ i Γ. qed 𝓛 (raw (⋆ 𝓛 (c (x ∷ y ∷ i ∷ Γ))) ∷ []) ∵
          use1 𝓛 (x ⊛ raw (⋆ 𝓛 (c (y ∷ i ∷ Γ)))) (reach.out x (y ∷ i ∷ Γ)) $ split ! $ move ! (1 ∷ []) $
          use1 𝓛 (y ⊛ raw (⋆ 𝓛 (c (i ∷ Γ)))) (reach.out y (i ∷ Γ)) $ split ! $ move ! (1 ∷ []) $
          use1 𝓛 (i ⊛ raw (⋆ 𝓛 (c Γ))) (reach.out i Γ) $ split ! $ frame ! $
          -- [the rest; y; x]
          move ! (1 ∷ 0 ∷ []) $ use2 𝓛 (raw (⋆ 𝓛 (c (y ∷ Γ)))) (reach.back y Γ) $
          move ! (1 ∷ 0 ∷ []) $ use2 𝓛 (raw (⋆ 𝓛 (c (x ∷ y ∷ Γ)))) (reach.back x (y ∷ Γ)) $ done !;
      back = λ i Γ. qed 𝓛 (i ∷ raw (⋆ 𝓛 (c (x ∷ y ∷ Γ))) ∷ []) ∵ move ! (1 ∷ []) $
          use1 𝓛 (x ⊛ raw (⋆ 𝓛 (c (y ∷ Γ)))) (reach.out x (y ∷ Γ)) $ split ! $ move ! (1 ∷ []) $
          use1 𝓛 (y ⊛ raw (⋆ 𝓛 (c Γ))) (reach.out y Γ) $ split ! $ move ! (3 ∷ 1 ∷ []) $
          -- [i; the rest; y; x]
          use2 𝓛 (raw (⋆ 𝓛 (c (i ∷ Γ)))) (reach.back i Γ) $
          move ! (1 ∷ 0 ∷ []) $ use2 𝓛 (raw (⋆ 𝓛 (c (y ∷ i ∷ Γ)))) (reach.back y (i ∷ Γ)) $
          move ! (1 ∷ 0 ∷ []) $ use2 𝓛 (raw (⋆ 𝓛 (c (x ∷ y ∷ i ∷ Γ)))) (reach.back x (y ∷ i ∷ Γ)) $ done !;
    }

    past_cells : (E : Env 𝓤 H) (vs : List Val) → Reach (cells E vs)
    past_cells [] vs = record { out = pop 𝓛; back = push 𝓛 }
    past_cells (e ∷ E) [] = past_two (cells E []) (past_cells E []) _ _
    past_cells (e ∷ E) (v ∷ vs) = past_two (cells E vs) (past_cells E vs) _ _

    -- ---- the arguments are stored
    stored : (ls : List Local) (bs : Blocks ls) (vs : List Val) (Γ : List (Item 𝓤)) (P : SProp 𝓤) → Fill ls vs
        → ent 𝓤 (⋆ 𝓛 (cells (spots ls bs) vs Γ)) P → ent 𝓤 (⋆ 𝓛 (cells (spots ls bs) [] Γ)) (pass 𝓤 H (spots ls bs) vs P)
    stored ls bs [] Γ P fill k = k
    stored [] bs (v ∷ vs) Γ P fill k = absurd fill
    stored (local τ h ∷ ls) bs (v ∷ vs) Γ P fill k =
        let Δ : List (Item 𝓤) = ‵ (fdies τ bs.0) ∷ Γ in
        let E : Env 𝓤 H = spots ls bs.1 in
        qed 𝓛 (raw (⋆ 𝓛 (cells E [] (‵ (froom τ bs.0 zero) ∷ Δ))) ∷ []) ∵ check ! fill.0 $
        use1 𝓛 (‵ (froom τ bs.0 zero) ⊛ raw (⋆ 𝓛 (cells E [] Δ))) ((past_cells E []).out _ Δ) $ split ! $ frame ! $
        assume ! (‵ (fat full_share τ bs.0 zero v)) $
        use2 𝓛 (raw (⋆ 𝓛 (cells E [] (‵ (fat full_share τ bs.0 zero v) ∷ Δ)))) ((past_cells E []).back _ Δ) $
        by ! (stored ls bs.1 vs _ P fill.1 k)

    -- ---- the locals are freed
    freed_first : (e : Ty × ℕ) (E : Env 𝓤 H) (vs : List Val) (x : Item 𝓤) (R P : SProp 𝓤) → ent 𝓤 (mean 𝓛 x) (H.room e.0 e.1 zero)
        → ent 𝓤 (sep 𝓤 R (⋆ 𝓛 (cells E vs []))) (release 𝓤 H E P)
        → ent 𝓤 (sep 𝓤 R (⋆ 𝓛 (cells E vs (x ∷ ‵ (fdies e.0 e.1) ∷ [])))) (release 𝓤 H (e ∷ E) P)
    freed_first e E vs x R P is_room k =
        let Δ : List (Item 𝓤) = ‵ (fdies e.0 e.1) ∷ [] in
        qed 𝓛 (raw R ∷ raw (⋆ 𝓛 (cells E vs (x ∷ Δ))) ∷ []) ∵ move ! (1 ∷ []) $
        use1 𝓛 (x ⊛ raw (⋆ 𝓛 (cells E vs Δ))) ((past_cells E vs).out x Δ) $ split ! $
        use1 𝓛 (‵ (froom e.0 e.1 zero)) is_room $ move ! (1 ∷ []) $
        use1 𝓛 (‵ (fdies e.0 e.1) ⊛ raw (⋆ 𝓛 (cells E vs []))) ((past_cells E vs).out _ []) $ split ! $
        -- [what frees it; the others; its room; R]
        move ! (2 ∷ 0 ∷ []) $ join ! $ frame ! $ move ! (1 ∷ 0 ∷ []) $ by ! k

    freed : (E : Env 𝓤 H) (vs : List Val) (R P : SProp 𝓤) → ent 𝓤 R P → ent 𝓤 (sep 𝓤 R (⋆ 𝓛 (cells E vs []))) (release 𝓤 H E P)
    freed [] vs R P k = via 𝓤 _ (fst∗ 𝓤 R (emp 𝓤)) k
    freed (e ∷ E) [] R P k = freed_first e E [] (‵ (froom e.0 e.1 zero)) R P (id⊢ 𝓤 _) (freed E [] R P k)
    freed (e ∷ E) (v ∷ vs) R P k =
        freed_first e E vs (‵ (fat full_share e.0 e.1 zero v)) R P (𝓛.laws.at_room e.0 e.1 zero v) (freed E vs R P k)

module _ {M : Type 1} {𝓤 : Ura M} {𝓛 : Logic 𝓤} {K : Type 0} where
  open 𝓛 use {H}

  allocated : K → (ls : List Local) (Γ : List (Item 𝓤)) (G : Env 𝓤 H → Goal 𝓤 H)
      → ((bs : Blocks ls) → Seq K 𝓛 (cells 𝓛 (spots 𝓛 ls bs) [] Γ) (G (spots 𝓛 ls bs))) → Seq K 𝓛 Γ (allocs ls G)
  allocated t [] Γ G k = alloc0 t $ k tt
  allocated t (local τ h ∷ ls) Γ G k = alloc1 t (λ b. allocated t ls _ (λ E. G ((τ, b) ∷ E)) (λ bs. k (b, bs)))

  passed : (ls : List Local) (bs : Blocks ls) (vs : List Val) (Γ : List (Item 𝓤)) (G : Goal 𝓤 H) → Suits ls vs
      → Seq K 𝓛 (called_with 𝓛 (spots 𝓛 ls bs) vs Γ) G
      → Seq K 𝓛 (cells 𝓛 (spots 𝓛 ls bs) [] Γ) (params' (spots 𝓛 ls bs) vs G)
  passed [] bs vs Γ G suits s = absurd suits
  passed (local τ h ∷ ls) bs vs Γ G suits s = record { prf = stored 𝓛 ls bs.1 vs _ (aim 𝓤 H G) suits s.prf }

  module _ {Γ : List (Item 𝓤)} where
    pub starts : K → (C : Calls 𝓤 H) (Λ : Loops 𝓤 H) (f : Fn) (vs : List Val) (Q : Val → SProp 𝓤) → Suits f.locals vs
        → ((bs : Blocks f.locals) → Seq K 𝓛 (called_with 𝓛 (spots 𝓛 f.locals bs) vs Γ)
        (runs C Λ (spots 𝓛 f.locals bs) f.body (at_ret (spots 𝓛 f.locals bs) Q)))
        → Seq K 𝓛 Γ (prop (WpFn 𝓤 H C Λ f vs Q))
    starts t C Λ f vs Q suits k = enter t C Λ f vs Q $ allocated t f.locals Γ _ (λ bs. passed f.locals bs vs Γ _ suits (k bs))

    pub frees_all : K → (n : ℕ) {E : Env 𝓤 H} {G : Goal 𝓤 H} (vs : List Val) → beyond 𝓛 n Γ ≡ cells 𝓛 E vs []
        → Step K 𝓛 (front 𝓛 n Γ) G Γ (frees E G)
    frees_all t n {E} {G} vs e =
        let F : SProp 𝓤 = ⋆ 𝓛 (front 𝓛 n Γ) in
        step (λ s. record {
          prf = via 𝓤 (sep 𝓤 F (⋆ 𝓛 (cells 𝓛 E vs [])))
              (subst (λ (Δ : List (Item 𝓤)). ent 𝓤 (⋆ 𝓛 Γ) (sep 𝓤 F (⋆ 𝓛 Δ))) e (parted 𝓛 n Γ))
              (freed 𝓛 E vs F (aim 𝓤 H G) s.prf);
        })
