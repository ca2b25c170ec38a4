-- Sectors of one track that follow each other, in the track's stretch of the image.
use Rattle.std.specs.Prelude.{ℕ, zero, suc, List, [], ◌++◌, take, drop}
use Rattle.std.proofs.Math.Option.{Option, none, some}
use Rattle.geometry.specs.declared.params.Params.{Params}
use Rattle.track.specs.Image.{slot_data, with_data}
use Rattle.track.specs.Find.{slot_used}

-- ---- m sectors from s on, up to the first that no slot holds
unfoldable pub on_slot {ℓ} : {A : Type ℓ} → Option ℕ → A → (ℕ → A) → A
on_slot none a next = a
on_slot (some k) a next = next k

-- how many
unfoldable pub run_done : Params → (m s : ℕ) → (bytes : List ℕ) → ℕ
run_done p zero s bytes = zero
run_done p (suc m) s bytes = on_slot (slot_used p s bytes) zero (λ k. suc (run_done p m (suc s) bytes))

-- their data, one behind the other
unfoldable pub run_read : Params → (m s : ℕ) → (bytes : List ℕ) → List ℕ
run_read p zero s bytes = []
run_read p (suc m) s bytes = on_slot (slot_used p s bytes) [] (λ k. slot_data p k bytes ++ run_read p m (suc s) bytes)

-- the track with the data given in their slots
unfoldable pub run_written : Params → (m s : ℕ) → (given bytes : List ℕ) → List ℕ
run_written p zero s given bytes = bytes
run_written p (suc m) s given bytes =
    on_slot (slot_used p s bytes) bytes (λ k. run_written p m (suc s) (drop p.size given) (with_data p k (take p.size given) bytes))
