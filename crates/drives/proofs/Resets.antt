-- A fresh controller: what Reset loads of four labels.
use mathlib.Core.Path.{◌≡◌, sym, ap, ◌∙◌}
use mathlib.Core.List.{List, [], ◌∷◌, map}
use Prim.Native.Nat.{ℕ}
use lib.ListN.{replicate, get_or, get_or-map}
use denote.Ref.{Bor}
use Rattle.model.specs.declared.record.Drive.{Drive}
use Rattle.model.specs.declared.record.Controller.{Controller}
use Rattle.model.specs.Engine.{image_of, loaded, fresh}

abbrev none : Bor (List ℕ)
none = record { ref_ptr = (0, 0); now = [] }

module _ (images : List (Bor (List ℕ))) where
  abbrev lent : List (List ℕ)
  lent = map (λ (i : Bor (List ℕ)). i.now) images

  at : (k : ℕ) (drive : Drive) → drive ≡ loaded k (get_or images k none).now → drive ≡ loaded k (image_of k lent)
  unfolding image_of
  at k drive e = e ∙ ap (loaded k) (sym (get_or-map (λ (i : Bor (List ℕ)). i.now) images k none))

  pub fresh_of : (drive0 drive1 drive2 drive3 : Drive) → drive0 ≡ loaded 0 (get_or images 0 none).now → drive1 ≡ loaded 1 (get_or images 1 none).now
      → drive2 ≡ loaded 2 (get_or images 2 none).now → drive3 ≡ loaded 3 (get_or images 3 none).now
      → ◌≡◌ {A = Controller} (record { buffer = replicate 512 0; drives = drive0 ∷ drive1 ∷ drive2 ∷ drive3 ∷ [] }) (fresh lent)
  unfolding fresh
  fresh_of drive0 drive1 drive2 drive3 e₀ e₁ e₂ e₃ = rw (at 0 drive0 e₀, at 1 drive1 e₁, at 2 drive2 e₂, at 3 drive3 e₃)
