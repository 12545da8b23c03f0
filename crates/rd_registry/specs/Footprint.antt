-- What two modules must agree on for evaluations to be the same.
use Rattle.std.specs.Prelude.{◌≡◌, ℕ, List, [], ◌∷◌, Option, None, Some}
use Rattle.rd_value.specs.declared.value.FileValue.{FileValue}
use Rattle.rd_value.specs.declared.value.Datum.{Datum}
use Rattle.rd_tree.specs.declared.tree.Function.{Function}
use Rattle.rd_tree.specs.declared.tree.Module.{Module}
use Rattle.rd_registry.specs.Bodies.{body, find_task, signature_of}
use Rattle.rd_registry.specs.Fresh.{What, Bound, Unbound, Met, Event}

module _ {F : Type 0} (file : F → FileValue) (m n : Module) where
  -- equal parameters, and the same meaning on all arguments
  pub record MeansTheSame (f g : Function) : Type 0 where
    pub parameters : signature_of {F = F} g ≡ signature_of f
    pub bodies : (args : List (Datum F)) → body file n g args ≡ body file m f args

  -- no function on either side, or functions that mean the same
  abbrev pub AreAlike : Option Function → Option Function → Type 0
  AreAlike None None = Unit {0}
  AreAlike (Some f) (Some g) = MeansTheSame f g
  AreAlike f g = ⊥

  -- the tasks of this full name mean the same, or neither module has one
  abbrev pub AgreeOn : List ℕ → Type 0
  AgreeOn task = AreAlike (find_task m task) (find_task n task)

  -- on the task of a call, whether it was bound or not
  abbrev pub AgreeOnWhat : What F → Type 0
  AgreeOnWhat (Bound visit) = AgreeOn visit.task
  AgreeOnWhat (Unbound task) = AgreeOn task
  AgreeOnWhat (Met e) = Unit {0}

  -- on the tasks of all calls that happen
  unfoldable pub Agree : List (Event F) → Type 0
  Agree [] = Unit {0}
  Agree (e ∷ es) = AgreeOnWhat e.what × Agree es
