-- Operands, right sides and stores as a walk of a thin call meets them, each by the entries of the context that it is about.
--     local_at, field_of_lem       a local; a field of a local
--     part_at          field k of the struct at entry n
--     within_at, lent_within       a field of the struct that lies behind a reference that is in a local: its value; its address
--     lent_from, pair_of       a `&mut [T]` in a local is lent again: its pointer; the slice of that pointer and the same length
--     sets             a local that was room is set.        sets_behind, sets_within     what lies behind a reference that is in a local is
--                      overwritten; a field of it is
-- They take `Logic`.
use mathlib.Core.Path.{◌≡◌, sym, subst}
use Prim.Native.Nat.{ℕ, zero, ◌+◌}
use mathlib.Core.List.{List, [], ◌∷◌}
use mathlib.Core.Option.{some}
use seplogic.Ra.Ura.{Ura}
use base.Fraction.{full_share}
use lib.Dec.{T}
use mir.Syntax.{Sym, Ty, Tys, ty_struct, deref, field, place, Opd as Operand, copy, Rv as RValue, addr_of, aggregate, seq, assign, Body}
use mir.Fields.{get_v, set_v}
use mir.Raw.{raw as raw_ty}
use mir.Val.{Val, Vals, vstruct, vptr, of_list, WT, has_ty}
use base.Fml.{Share, Fml, fat, froom}
use prog.Memory.{field_of, field_at}
use prog.Wp.{Heap, Env, Calls, Loops, spot_of}
use types.Logic.{Logic}
use types.Kit.{Item, ‵, nth, put, Post, runs, Step}
use types.Run.{Reads, Opd, Rv, look, init, store_raw, stop, hop, fld, from, load, addr, and_then, no_more, assigns}
use types.Part.{Part, agg, whole, sub, look_in, store_in}

-- local i holds a value, to a share; and it is room
module _ {M : Type 1} (𝓤 : Ura M) (H : Heap 𝓤) (E : Env 𝓤 H) (i : ℕ) where
  abbrev pub holds : Share → Val → Fml
  holds q v = fat q (spot_of 𝓤 H E i).0 (spot_of 𝓤 H E i).1 (spot_of 𝓤 H E i).2 v

  abbrev pub is_room : Fml
  is_room = froom (spot_of 𝓤 H E i).0 (spot_of 𝓤 H E i).1 (spot_of 𝓤 H E i).2

module _ {M : Type 1} {𝓤 : Ura M} {𝓛 : Logic 𝓤} {K : Type 0} {Γ : List (Item 𝓤)} where
  open 𝓛 use {H}

  pub part_at : K → (n k : ℕ) {q : Share} {ν : Sym} {τs : Tys} {τ : Ty} {b o d : ℕ} {vs : Vals}
      → nth 𝓛 n Γ ≡ ‵ (fat q (ty_struct ν τs) b o (vstruct vs)) → field_at zero τs k ≡ some (τ, d) → Reads K 𝓛 Γ τ b (o + d) (get_v vs k)
  part_at t n k {q} {ν} {τs} {τ} {b} {o} {d} {vs} e at =
      look_in t n (subst (λ (i : Item 𝓤). Part K 𝓛 i q τ b (o + d) (get_v vs k) (λ u. ‵ (fat q (ty_struct ν τs) b o (vstruct (set_v vs k u)))))
      (sym e) (sub t k at (whole t)))

  module _ {E : Env 𝓤 H} where
    pub local_at : K → (n : ℕ) {i : ℕ} {q : Share} {v : Val} → nth 𝓛 n Γ ≡ ‵ (holds 𝓤 H E i q v) → Opd K 𝓛 Γ E (copy (place i [])) v
    local_at t n e = load t (from t (stop t)) (look t n e)

    module _ {i : ℕ} {q : Share} {ν : Sym} {τs : Tys} {τ : Ty} {b o d : ℕ} where
      pub lent_within : K → (n k : ℕ) → nth 𝓛 n Γ ≡ ‵ (holds 𝓤 H E i q (vptr b o)) → field_at zero τs k ≡ some (τ, d)
          → Rv K 𝓛 Γ E (addr_of (place i (deref (ty_struct ν τs) ∷ field k ∷ []))) (vptr b (o + d))
      lent_within t n k e at = addr t (from t (hop t (look t n e) (fld t at (stop t))))

      pub within_at : K → (n m k : ℕ) {s : Share} {vs : Vals} → nth 𝓛 n Γ ≡ ‵ (holds 𝓤 H E i q (vptr b o))
          → nth 𝓛 m Γ ≡ ‵ (fat s (ty_struct ν τs) b o (vstruct vs)) → field_at zero τs k ≡ some (τ, d)
          → Opd K 𝓛 Γ E (copy (place i (deref (ty_struct ν τs) ∷ field k ∷ []))) (get_v vs k)
      within_at t n m k e e' at = load t (from t (hop t (look t n e) (fld t at (stop t)))) (part_at t m k e' at)

    pub field_of_lem : K → {i k d : ℕ} {τ : Ty} {v : Val} → field_of (spot_of 𝓤 H E i).0 k ≡ some (τ, d)
        → Reads K 𝓛 Γ τ (spot_of 𝓤 H E i).1 ((spot_of 𝓤 H E i).2 + d) v → Opd K 𝓛 Γ E (copy (place i (field k ∷ []))) v
    field_of_lem t e r = load t (from t (fld t e (stop t))) r

    pub lent_from : K → {i k d : ℕ} {σ τ : Ty} {b o : ℕ} → field_of (spot_of 𝓤 H E i).0 k ≡ some (σ, d)
        → Reads K 𝓛 Γ σ (spot_of 𝓤 H E i).1 ((spot_of 𝓤 H E i).2 + d) (vptr b o)
        → Rv K 𝓛 Γ E (addr_of (place i (field k ∷ deref τ ∷ []))) (vptr b o)
    lent_from t e r = addr t (from t (fld t e (hop t r (stop t))))

    pub pair_of : K → {x y : Operand} {u v : Val} → Opd K 𝓛 Γ E x u → Opd K 𝓛 Γ E y v
        → Rv K 𝓛 Γ E (aggregate (x ∷ y ∷ [])) (vstruct (of_list (u ∷ v ∷ [])))
    pair_of t a b = agg t (and_then t a (and_then t b (no_more t)))

    module _ {C : Calls 𝓤 H} {Λ : Loops 𝓤 H} {q : Post 𝓤 H} {rv : RValue} {rest : Body} {i : ℕ} {v : Val} where
      pub sets : K → Rv K 𝓛 Γ E rv v → (n : ℕ) → nth 𝓛 n Γ ≡ ‵ (is_room 𝓤 H E i) → T (has_ty (spot_of 𝓤 H E i).0 v) × WT v
          → Step K 𝓛 (put 𝓛 n (‵ (holds 𝓤 H E i full_share v)) Γ) (runs C Λ E rest q) Γ (runs C Λ E (seq (assign (place i []) rv) rest) q)
      sets t r n e typed = assigns t r (from t (stop t)) (init t n e typed)

      pub sets_behind : K → Rv K 𝓛 Γ E rv v → (n m : ℕ) {s : Share} {τ : Ty} {b o : ℕ} {u : Val} → nth 𝓛 n Γ ≡ ‵ (holds 𝓤 H E i s (vptr b o))
          → nth 𝓛 m Γ ≡ ‵ (fat full_share (raw_ty τ) b o u) → T (has_ty τ v) × WT v
          → Step K 𝓛 (put 𝓛 m (‵ (fat full_share (raw_ty τ) b o v)) Γ) (runs C Λ E rest q)
          Γ (runs C Λ E (seq (assign (place i (deref τ ∷ [])) rv) rest) q)
      sets_behind t r n m e e' typed = assigns t r (from t (hop t (look t n e) (stop t))) (store_raw t m e' typed)

      pub sets_within : K → Rv K 𝓛 Γ E rv v → (n m k : ℕ) {s : Share} {ν : Sym} {τs : Tys} {τ : Ty} {b o d : ℕ} {vs : Vals}
          → nth 𝓛 n Γ ≡ ‵ (holds 𝓤 H E i s (vptr b o)) → nth 𝓛 m Γ ≡ ‵ (fat full_share (ty_struct ν τs) b o (vstruct vs))
          → field_at zero τs k ≡ some (τ, d) → T (has_ty τ v) × WT v
          → Step K 𝓛 (put 𝓛 m (‵ (fat full_share (ty_struct ν τs) b o (vstruct (set_v vs k v)))) Γ) (runs C Λ E rest q)
          Γ (runs C Λ E (seq (assign (place i (deref (ty_struct ν τs) ∷ field k ∷ [])) rv) rest) q)
      sets_within t r n m k {ν = ν} {τs} {τ} {b} {o} {d} {vs} e e' at typed =
          assigns t r (from t (hop t (look t n e) (fld t at (stop t))))
          (store_in t m (subst (λ (j : Item 𝓤).
          Part K 𝓛 j full_share τ b (o + d) (get_v vs k) (λ u. ‵ (fat full_share (ty_struct ν τs) b o (vstruct (set_v vs k u)))))
          (sym e') (sub t k at (whole t))) typed)
