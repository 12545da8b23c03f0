-- The forms of calls under other names.
use Rattle.std.proofs.Common.{◌≡◌, List, [], ◌∷◌, map, Option, refl, sym, ap, ◌∙◌}
use Rattle.std.specs.Option.{option_map}
use mathlib.Core.List.{map-map}
use Rattle.rd_tree.specs.declared.tree.Node.{Node, out-Node, roll-out-Node, out-roll-Node}
use Rattle.rd_tree.specs.declared.tree.Node.TheViews.{roll-Node}
use Rattle.rd_tree.specs.declared.tree.Node.TheOpen.{Node-F}
use Rattle.rd_tree.specs.declared.tree.Node.TheFolds.{map-Node, fold-roll-Node}
use Rattle.rd_routine.specs.declared.special.Special.{Special}
use Rattle.rd_routine.specs.Forms.{name_at, name_alone, Form, Plain, Wrong, Mapping, Catching, form_of, form_with}
use Rattle.rd_routine.proofs.Forms.{form_through, form_same, with_both}
use Rattle.rd_code.specs.Renaming.{renamed_first, renamed_at, renamed}

module _ {N M : Type 0} (r : N → M) where
  pub renamed_roll : (y : Node-F N (Node N)) → renamed r (roll-Node N y) ≡ roll-Node M (renamed_at r (map-Node N (Node N) (Node M) (renamed r) y))
  renamed_roll y = fold-roll-Node N (Node M) (λ x. roll-Node M (renamed_at r x)) y

  name_at_renamed : (y : Node-F N (Node N)) → name_at (renamed_at r (map-Node N (Node N) (Node M) (renamed r) y)) ≡ option_map r (name_at y)
  name_at_renamed (Node-F.Name x) = refl
  name_at_renamed y = refl

  name_layer : (y : Node-F N (Node N)) → name_alone (renamed r (roll-Node N y)) ≡ option_map r (name_at y)
  name_layer y = ap name_alone (renamed_roll y) ∙ ap name_at (out-roll-Node M (renamed_at r (map-Node N (Node N) (Node M) (renamed r) y))) ∙ name_at_renamed y

  -- the name of an expression that is a name alone
  pub name_renamed : (n : Node N) → name_alone (renamed r n) ≡ option_map r (name_alone n)
  name_renamed n = ap (λ m. name_alone (renamed r m)) (sym (roll-out-Node N n)) ∙ name_layer (out-Node N n)

module _ {N H : Type 0} (node_of : H → Node N) where
  abbrev nodes_behind : List (N × H) → List (N × Node N)
  nodes_behind ks = map (λ k. (k.0, node_of k.1)) ks

  -- the form of a call whose arguments hold their expressions
  abbrev pub held_form : Option Special → List H → List (N × H) → Form N H
  held_form s hs ks = form_of (λ h. name_alone (node_of h)) s hs ks

  pub plain_form : {X : Type 0} (k : Node N → X) (s : Option Special) (hs : List H) (ks : List (N × H)) → form_with (λ n. n) k (form_of name_alone s (map node_of hs) (nodes_behind ks)) ≡ form_with (λ n. n) (λ h. k (node_of h)) (held_form s hs ks)
  plain_form k s hs ks =
      ap (form_with (λ n. n) k) (form_same (λ h. name_alone (node_of h)) name_alone node_of (λ h. refl) (λ p. (p.0, node_of p.1)) s hs ks) ∙ with_both node_of k (held_form s hs ks)

  module _ {M : Type 0} (r : N → M) where
    abbrev others_behind : List (N × H) → List (M × Node M)
    others_behind ks = map (renamed_first r) (map (λ k. (k.0, renamed r k.1)) (nodes_behind ks))

    abbrev other_of : H → Node M
    other_of h = renamed r (node_of h)

    abbrev other_behind : N × H → M × Node M
    other_behind k = (r k.0, other_of k.1)

    three_maps : (ks : List (N × H)) → others_behind ks ≡ map other_behind ks
    three_maps [] = refl
    three_maps (k ∷ ks) = ap (λ l. other_behind k ∷ l) (three_maps ks)

    with_other : {X : Type 0} (k : Node M → X) (c : Form N H) → form_with (λ n. n) k (form_with r other_of c) ≡ form_with r (λ h. k (other_of h)) c
    with_other k Plain = refl
    with_other k Wrong = refl
    with_other k (Mapping task list) = refl
    with_other k (Catching tried caught task) = refl

    -- the same under other names
    pub other_form : {X : Type 0} (k : Node M → X) (s t : Option Special) → t ≡ s → (hs : List H) (ks : List (N × H))
        → form_with (λ n. n) k (form_of name_alone t (map (renamed r) (map node_of hs)) (others_behind ks)) ≡ form_with r (λ h. k (other_of h)) (held_form s hs ks)
    other_form k s t same hs ks =
        ap (λ u. form_with (λ n. n) k (form_of name_alone u (map (renamed r) (map node_of hs)) (others_behind ks))) same ∙ ap (λ l. form_with (λ n. n) k (form_of name_alone s (map (renamed r) (map node_of hs)) l)) (three_maps ks)
        ∙ ap (λ l. form_with (λ n. n) k (form_of name_alone s l (map other_behind ks))) (map-map (renamed r) node_of hs)
        ∙ ap (form_with (λ n. n) k) (form_through (λ h. name_alone (node_of h)) name_alone r other_of (λ h. name_renamed r (node_of h)) other_behind s hs ks)
        ∙ with_other k (held_form s hs ks)
