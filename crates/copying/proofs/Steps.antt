-- A Copy step by step: on with one that has not ended, some source sectors and then more, one more.
use mathlib.Core.Path.{◌≡◌, refl, sym, ap, ◌∙◌}
use mathlib.Core.List.{List, [], ◌∷◌, ◌++◌}
use Prim.Native.Nat.{ℕ, zero, suc, ◌+◌, ◌/◌}
use native.Mathlib.Omega.{arith}
use native.Mathlib.Nat.{zero-add, suc-add}
use lib.ListN.{length, replicate, length-append, length-replicate}
use lib.Seq.{length-take-le}
use Rattle.geometry.specs.Params.{further}
use Rattle.contents.specs.Content.{Content, Bytes, Missing, content_of}
use Rattle.copying.specs.declared.route.Route.{Route}
use Rattle.copying.specs.Ends.{End}
use Rattle.copying.specs.Ends.{Going, SourceFault, TargetFault, Short}
use Rattle.copying.specs.Images.{image_of}
use Rattle.copying.specs.Copying.{Copying, stopped, with_rest, taken, filled, on_by, unless_ended, store, stores, poured_by, copying, completed_by, completed}

pub on_going : (x : Copying) (next : Copying → Copying) → x.end ≡ Going → unless_ended x next ≡ next x
unfolding on_by
on_going x next e = rw e refl

pub on_source : (x : Copying) (next : Copying → Copying) (code : ℕ) → x.end ≡ SourceFault code → unless_ended x next ≡ x
unfolding on_by
on_source x next code e = rw e refl

pub on_target : (x : Copying) (next : Copying → Copying) (code : ℕ) → x.end ≡ TargetFault code → unless_ended x next ≡ x
unfolding on_by
on_target x next code e = rw e refl

on_short : (x : Copying) (next : Copying → Copying) → x.end ≡ Short → unless_ended x next ≡ x
unfolding on_by
on_short x next e = rw e refl

twice : (x : Copying) (f g : Copying → Copying) (e : End) → x.end ≡ e → unless_ended (on_by x f e) g ≡ on_by x (λ y. unless_ended (f y) g) e
unfolding on_by
twice x f g Going z = refl
twice x f g (SourceFault code) z = rw z refl
twice x f g (TargetFault code) z = rw z refl
twice x f g Short z = rw z refl

pub on_again : (x : Copying) (f g : Copying → Copying) → unless_ended (unless_ended x f) g ≡ unless_ended x (λ y. unless_ended (f y) g)
on_again x f g = twice x f g x.end refl

pub on_same : (x : Copying) (f g : Copying → Copying) → (x.end ≡ Going → f x ≡ g x) → unless_ended x f ≡ unless_ended x g
on_same x f g h = by x.end refl
  where
    by : (e : End) → x.end ≡ e → unless_ended x f ≡ unless_ended x g
    by Going z = on_going x f z ∙ h z ∙ sym (on_going x g z)
    by (SourceFault code) z = on_source x f code z ∙ sym (on_source x g code z)
    by (TargetFault code) z = on_target x f code z ∙ sym (on_target x g code z)
    by Short z = on_short x f z ∙ sym (on_short x g z)

self : (x : Copying) (e : End) → on_by x (λ y. y) e ≡ x
unfolding on_by
self x Going = refl
self x (SourceFault code) = refl
self x (TargetFault code) = refl
self x Short = refl

pub on_self : (x : Copying) → unless_ended x (λ y. y) ≡ x
on_self x = self x x.end

-- c source sectors and then e more
more_by : (r : Route) (c e : ℕ) (x : Copying)
    → ((y : Copying) → y.end ≡ Going → copying r (c + e) y ≡ unless_ended (copying r c y) (λ z. copying r e z))
    → (content : Content)
    → poured_by r x (λ y. copying r (c + e) y) content ≡ unless_ended (poured_by r x (λ y. copying r c y) content) (λ z. copying r e z)
unfolding poured_by on_by
more_by r c e x again (Missing code) = refl
more_by r c e x again (Bytes sector) =
    let all : Copying = stores r (length (x.rest ++ sector) / r.q.size) (taken sector x) in
    on_same all (λ y. copying r (c + e) y) (λ y. unless_ended (copying r c y) (λ z. copying r e z)) (again all)
    ∙ sym (on_again all (λ y. copying r c y) (λ z. copying r e z))

pub copying_more : (r : Route) (c e : ℕ) (x : Copying) → x.end ≡ Going → copying r (c + e) x ≡ unless_ended (copying r c x) (λ y. copying r e y)
unfolding copying
copying_more r zero e x z = rw zero-add (sym (on_going x (λ y. copying r e y) z))
copying_more r (suc c) e x z =
    rw suc-add (more_by r c e x (λ y. copying_more r c e y) (content_of r.p (further r.a x.read) (image_of r.source x.images)))

-- one source sector more, where it is found
pub source_read : (r : Route) (x : Copying) (c : ℕ) (sector : List ℕ) → content_of r.p (further r.a x.read) (image_of r.source x.images) ≡ Bytes sector
    → copying r (suc c) x ≡ unless_ended (stores r (length (x.rest ++ sector) / r.q.size) (taken sector x)) (λ y. copying r c y)
unfolding copying poured_by
source_read r x c sector e = rw e refl

pub none_more : (r : Route) (y : Copying) → copying r zero y ≡ y
unfolding copying
none_more r y = refl

-- ---- the last sector in part
pub part_completed : (r : Route) (y : Copying) (byte : ℕ) (more : List ℕ) → y.end ≡ Going → y.rest ≡ byte ∷ more
    → completed r y ≡ unless_ended (store r (filled r.q.size y.rest) (with_rest [] y)) (λ z. stopped Short z)
unfolding completed completed_by
part_completed r y byte more going is =
    on_going y _ going ∙ ap (completed_by r y) is
    ∙ ap (λ (l : List ℕ). unless_ended (store r (filled r.q.size l) (with_rest [] y)) (λ z. stopped Short z)) (sym is)

pub filled_long : (size : ℕ) (rest : List ℕ) → length (filled size rest) ≡ size
filled_long size rest =
    length-take-le size (rest ++ replicate size 0) (omega (arith, length-append rest (replicate size 0), length-replicate {A = ℕ} size 0))

-- nothing waits, or it has ended
pub none_completed : (r : Route) (y : Copying) → y.rest ≡ [] → completed r y ≡ y
unfolding completed completed_by
none_completed r y none = on_same y _ (λ z. z) (λ z. ap (completed_by r y) none) ∙ on_self y
