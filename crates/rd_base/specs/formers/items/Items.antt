-- `Items` as a type that may hold the type that holds it.
use mathlib.Core.Path.{◌≡◌, refl, sym}
use mathlib.Core.Logic.{◌⊎◌, inl, inr}
use mathlib.Core.List.{List, []}
use mathlib.Core.Former.{Former, this, const, pair, or, list, via, children}
use base.Stored.{code_map}
use denote.RattleType.{RattleType}
use denote.RawPtr.{Ptr}
use denote.HoleLaws.{Alike}
use denote.HolePlaces.{Recodes, struct_places, enum_places, eachs, laid}
use denote.Hole.Carrier.{listed, list-listed}
use denote.Hole.Fix.{over}
use denote.Param.Weighed.{Weighed, w_list}
use denote.Model.Placed.{held, view_places}
use Rattle.std.specs.Prelude.{None, Some}
use Rattle.std.specs.declared.option.Option.{Option}
use Rattle.std.specs.contracts.option.Option as option
use Rattle.std.specs.formers.vec.Vec as vec
use Rattle.std.specs.declared.vec.Vec.{Vec}
use Rattle.std.specs.contracts.vec.Vec as vector
use Rattle.std.specs.declared.sync.Arc.{Arc}
use Rattle.std.specs.declared.alloc.Global.{Global}
use Rattle.std.specs.contracts.alloc.Global as heap
use Rattle.std.specs.contracts.impls.GlobalAllocator.TheImpl.{ghosts}
use Rattle.rd_base.specs.Items.{shared_items}
use Rattle.rd_base.specs.formers.boxed.Boxed.{with_value, arc_of, arc_places}
use Rattle.rd_base.specs.declared.items.Items.TheInside.{Inside}
use Rattle.rd_base.specs.declared.items.Items.TheView.{view, invariant}
use Rattle.rd_base.specs.contracts.items.Items as C
use Rattle.rd_base.specs.contracts.items.Items.TheInside as I

abbrev pub the_former : Former {0} → Former {0}
the_former g = list g

abbrev pub the_weighed : {g : Former {0}} → Weighed g → Weighed (the_former g)
the_weighed w = w_list w

pub the_empty : List ⊥
the_empty = []

abbrev pub the_items : (X : Type 0) → List X → List X
the_items X d = d

pub the_items_listed : (X : Type 0) (d : List X) → listed _ (children (the_former this) X d) ≡ the_items X d
the_items_listed X d = list-listed X d

abbrev Shared : Type 0 → Type 0
Shared X = Arc (Vec X Global) Global

abbrev vec_of : RattleType → RattleType
vec_of R = vector.the_row R heap.the_row ghosts

-- an owner of a list, as a pointer and the list
abbrev shared : Former {0}
shared = via (pair (const Ptr) (vec.the_former this Global)) Shared (λ X a. (a.ptr, a.value)) (λ X v. record { ptr = v.0; value = v.1 }) (λ X a. refl) (λ X v. refl)

module _ {X : Type 0} where
  abbrev split : Option (Shared X) → Unit {0} ⊎ Shared X
  split None = inl tt
  split (Some a) = inr a

  abbrev joined : Unit {0} ⊎ Shared X → Option (Shared X)
  joined (inl u) = None
  joined (inr a) = Some a

  joined-split : (o : Option (Shared X)) → joined (split o) ≡ o
  joined-split None = refl
  joined-split (Some a) = refl

  split-joined : (o : Unit {0} ⊎ Shared X) → split (joined o) ≡ o
  split-joined (inl u) = refl
  split-joined (inr a) = refl

abbrev owners : Former {0}
owners = via (or (const (Unit {0})) shared) (λ X. Option (Shared X)) (λ X. split) (λ X. joined) (λ X. joined-split) (λ X. split-joined)

abbrev fields : Former {0}
fields = via owners Inside (λ X a. a.items) (λ X v. record { items = v }) (λ X a. refl) (λ X v. refl)

module _ {X Y : Type 0} (h : X → Y) where
  abbrev shared_over : Shared X → Shared Y
  shared_over a = with_value a (vec.mapped h a.value)

  abbrev owner_over : Option (Shared X) → Option (Shared Y)
  owner_over None = None
  owner_over (Some a) = Some (shared_over a)

  over_owner : (o : Option (Shared X)) → owners.map X Y h o ≡ owner_over o
  over_owner None = refl
  over_owner (Some a) = refl

  natural : (o : Option (Shared X)) → shared_items (owners.map X Y h o) ≡ (the_former this).map X Y h (shared_items o)
  natural None = refl
  natural (Some a) = refl

keeps : (X : Type 0) (o : Option (Shared X)) → held (list this) X (shared_items o) ≡ held owners X o
keeps X None = refl
keeps X (Some a) = refl

module _ (R S : RattleType) (h : R.Denot → S.Denot) where
  variant : (o : Option (Shared R.Denot))
      → (option.enum (arc_of (vec_of S))).as_values (owner_over h o)
      ≡ eachs (option.enum (arc_of (vec_of R))).parts (option.enum (arc_of (vec_of S))).parts (tt, ((shared_over h, tt), tt)) ((option.enum (arc_of (vec_of R))).as_values o)
  variant None = refl
  variant (Some a) = refl

  owner_places : Alike R S h → Alike (option.the_row (arc_of (vec_of R))) (option.the_row (arc_of (vec_of S))) (owner_over h)
  owner_places a =
      let below = arc_places (vec_of R) (vec_of S) (vec.mapped h) (vec.the_places heap.the_row ghosts R S h a) in
      enum_places (option.enum (arc_of (vec_of R))) (option.enum (arc_of (vec_of S))) (tt, ((shared_over h, tt), tt)) (owner_over h) variant refl (tt, ((laid _ _ _ below, tt), tt))

  pub the_places : Alike R S h → Alike (C.the_row R) (C.the_row S) ((the_former this).map R.Denot S.Denot h)
  the_places a = view_places fields (list this) view (λ X Y k u. natural k u.items) (λ X u. keeps X u.items) R.Denot S.Denot h (C.the_row R).coded (C.the_row S).coded
      (invariant R.Denot) (invariant S.Denot) (λ u p q. refl) (λ u p q. refl) (λ u e. tt) (λ u e. tt)
      (over (I.the_row R)) (over (I.the_row S))
      (struct_places (I.the_type R) (I.the_type S) (owner_over h, tt) _ (λ d i. (over_owner h d.items i, tt)) refl (laid _ _ _ (owner_places a), tt))

  pub the_codes_placed : Recodes R S h → Recodes (C.the_row R) (C.the_row S) ((the_former this).map R.Denot S.Denot h)
  the_codes_placed e d = sym (code_map R.coded.code S.coded.code h (λ x. sym (e x)) d)
