use Rattle.std.proofs.Common.{◌≡◌, ◌⊎◌, inl, inr, List, sym, [], ◌<◌, ◌++◌, ◌∷◌, ◌∙◌, ap, length, map, arith}
use Rattle.rd_tree.specs.declared.tree.Node.{Node}
use Rattle.rd_tree.specs.declared.tree.Node.TheVariants as variant
use Rattle.rd_routine.specs.declared.special.Form.{Form as Read}
use Rattle.rd_routine.specs.declared.special.Form.TheVariants as read
use Rattle.rd_routine.specs.Forms.{Form, Plain, Wrong, Mapping, Catching, held, name_alone, form_of}
use Rattle.rd_names.specs.Special.{special_named}
use Rattle.rd_names.specs.Uses.{joined}
use Rattle.rd_names.proofs.Walking.{goes_on, then_behind, third_behind, fourth_behind, alone, nothing}
use Rattle.rd_code.specs.Mentions.{named_in, plain, called, class}
use Rattle.rd_code.proofs.Mentions.{Name, behind, mentions_call, mentions_chain, mentions_dict, mentions_lit}
use Rattle.rd_code.proofs.mention.Mentions.+nodes.Goals as goal

pub nodes-loop-node-preserved : goal.nodes-loop-node-preserved
nodes-loop-node-preserved t c =
    let lt : c.loop-node.node-index < length c.args.nodes.now = omega arith in
    goes_on ◌++◌ behind named_in c.args.nodes.now c.loop-node.node-index c.node-item.result c.loop-node.self.all.items c.node.new.self.all.items _ lt c.node-item.is c.in_ok-node.ensures c.loop-node.invariant

pub keywords-loop-keyword-preserved : goal.keywords-loop-keyword-preserved
keywords-loop-keyword-preserved t c =
    let lt : c.loop-keyword.keyword-index < length c.args.keywords.now = omega arith in
    goes_on ◌++◌ behind (λ k. plain k.0 ∷ named_in k.1) c.args.keywords.now c.loop-keyword.keyword-index c.keyword-item.result c.loop-keyword.self.all.items c.node.new.self.all.items _ lt c.keyword-item.is
    (c.in_ok-node.ensures ∙ ap (λ ms. ms ++ named_in c.keyword-item.result.1) c.in_ok-add.ensures ∙ sym (behind c.loop-keyword.self.all.items (plain c.keyword-item.result.0 ∷ []) (named_in c.keyword-item.result.1))) c.loop-keyword.invariant

pub links-loop-link-preserved : goal.links-loop-link-preserved
links-loop-link-preserved t c =
    let lt : c.loop-link.link-index < length c.args.links.now = omega arith in
    goes_on ◌++◌ behind (λ l. named_in l.1) c.args.links.now c.loop-link.link-index c.link-item.result c.loop-link.self.all.items c.node.new.self.all.items _ lt c.link-item.is c.in_ok-node.ensures c.loop-link.invariant

pub pairs-loop-pair-preserved : goal.pairs-loop-pair-preserved
pairs-loop-pair-preserved t c =
    let lt : c.loop-pair.pair-index < length c.args.pairs.now = omega arith in
    goes_on ◌++◌ behind (λ p. named_in p.0 ++ named_in p.1) c.args.pairs.now c.loop-pair.pair-index c.pair-item.result c.loop-pair.self.all.items c.both.new.self.all.items _ lt c.pair-item.is c.in_ok-both.ensures c.loop-pair.invariant

pub node-returns-in-Chain : goal.node-returns-in-Chain
node-returns-in-Chain t c =
    alone c.chain.result c.args.self.now.all.items c.chain.new.self.all.items _ _ (rw (c.get-in-Chain.ensures, c.as_slice-in-Chain.ensures) at c.chain.ensures) (ap named_in c.in-Chain.is ∙ mentions_chain c.in-Chain.first c.in-Chain.rest)

pub node-returns-in-Dict : goal.node-returns-in-Dict
node-returns-in-Dict t c = alone c.pairs.result c.args.self.now.all.items c.pairs.new.self.all.items _ _ (rw c.as_slice-in-Dict.ensures at c.pairs.ensures) (ap named_in c.in-Dict.is ∙ mentions_dict c.in-Dict.pairs)

pub node-returns-in-Lit : goal.node-returns-in-Lit
node-returns-in-Lit t c = nothing c.args.self.now.all.items _ (ap named_in c.in-Lit.is ∙ mentions_lit c.in-Lit.field-0)

-- ---- calls

plain_call : (x : Name) (ps : List (Node Name)) (ks : List (Name × Node Name)) (c : Form Name (Node Name)) → form_of name_alone (special_named x) ps ks ≡ c → (c ≡ Plain) ⊎ (c ≡ Wrong)
    → named_in (variant.Call x ps ks) ≡ called x ∷ (joined (map named_in ps) ++ joined (map (λ k. plain k.0 ∷ named_in k.1) ks))
plain_call x ps ks c is (inl e) = mentions_call x ps ks Plain (is ∙ e)
plain_call x ps ks c is (inr e) = mentions_call x ps ks Wrong (is ∙ e)

held_either : (c : Read Name) → (c ≡ read.Plain) ⊎ (c ≡ read.Wrong) → (held c ≡ Plain) ⊎ (held c ≡ Wrong)
held_either c (inl e) = inl (ap held e)
held_either c (inr e) = inr (ap held e)

pub call-returns-in-Plain : goal.call-returns-in-Plain
call-returns-in-Plain t c =
    let x = c.args.name.now in
    let ps = c.args.positional.now in
    let ks = c.args.keywords.now in
    let read = sym (rw (c.special_named.ensures, c.as_str.ensures.value) at c.form_of.ensures) in
    then_behind ◌++◌ behind c.arguments.result c.args.self.now.all.items c.add.new.self.all.items c.arguments.new.self.all.items (called x ∷ []) _ _ c.arguments.ensures c.in_ok-add.ensures (plain_call x ps ks _ read (held_either c.form_of.result c.in-Plain.is))

pub call-returns-in_ok-add-in-Mapping : goal.call-returns-in_ok-add-in-Mapping
call-returns-in_ok-add-in-Mapping t c =
    let x = c.args.name.now in
    let ps = c.args.positional.now in
    let ks = c.args.keywords.now in
    let mapped = Mapping c.in-Mapping.task.now c.in-Mapping.list.now in
    let read : form_of name_alone (special_named x) ps ks ≡ mapped = sym (rw (c.special_named.ensures, c.as_str.ensures.value) at c.form_of.ensures) ∙ ap held c.in-Mapping.is in
    third_behind c.node.result c.args.self.now.all.items c.add.new.self.all.items c.add-in-Mapping.new.self.all.items c.node.new.self.all.items (called x ∷ []) (called c.in-Mapping.task.now ∷ []) _ _ c.node.ensures c.in_ok-add-in-Mapping.ensures c.in_ok-add.ensures
    (mentions_call x ps ks mapped read)

pub call-returns-in_ok-add-in-Catching : goal.call-returns-in_ok-add-in-Catching
call-returns-in_ok-add-in-Catching t c =
    let x = c.args.name.now in
    let ps = c.args.positional.now in
    let ks = c.args.keywords.now in
    let caught = Catching c.in-Catching.tried.now c.in-Catching.class.now c.in-Catching.recover.now in
    let read : form_of name_alone (special_named x) ps ks ≡ caught = sym (rw (c.special_named.ensures, c.as_str.ensures.value) at c.form_of.ensures) ∙ ap held c.in-Catching.is in
    fourth_behind c.add-in-Catching-2.result c.args.self.now.all.items c.add.new.self.all.items c.node-in-Catching.new.self.all.items c.add-in-Catching.new.self.all.items c.add-in-Catching-2.new.self.all.items (called x ∷ []) _ (class c.in-Catching.class.now ∷ []) (called c.in-Catching.recover.now ∷ []) _
    c.add-in-Catching-2.ensures c.in_ok-add-in-Catching.ensures c.in_ok-node-in-Catching.ensures c.in_ok-add.ensures (mentions_call x ps ks caught read)
