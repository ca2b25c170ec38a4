-- How a command ends by the verdict of its own checks: a fault or a refusal leaves the image; else it leaves what it makes.
use mathlib.Core.Path.{◌≡◌}
use mathlib.Core.List.{List}
use Prim.Native.Nat.{ℕ}
use Rattle.geometry.specs.declared.params.Lba.{Lba}
use Rattle.model.specs.declared.record.Drive.{Drive}
use Rattle.model.specs.declared.record.Ending.{Ending}
use Rattle.model.specs.Verdicts.{Verdict, Faulty, Passed}
use Rattle.model.specs.Record.{failed, unless, unless_named, Made, made}

module _ (drive : ℕ) (entry : Drive) (image : List ℕ) (verdict : Verdict) (r : Ending) (x : Made) where
  pub ends_faulty : (code : ℕ) (at : Lba) → verdict ≡ Faulty code at → r ≡ failed drive drive code at 0 0 entry
      → made r image ≡ unless verdict drive entry (λ e. made e image) x
  unfolding unless_named
  ends_faulty code at ev er = rw (ev, er)

  -- the image may be another
  pub ends_well : (after : List ℕ) → verdict ≡ Passed → made r after ≡ x → made r after ≡ unless verdict drive entry (λ e. made e image) x
  unfolding unless_named
  ends_well after ev er = rw ev er
