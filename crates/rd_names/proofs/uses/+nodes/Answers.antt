use Rattle.std.proofs.Common.{◌≡◌, ◌⊎◌, inl, inr, [], ◌++◌, ◌∙◌, ap, sym, subst, map, ℕ, Bool, List, arith}
use Rattle.rd_tree.specs.declared.tree.Name.{Name}
use Rattle.rd_tree.specs.declared.tree.Node.{Node}
use Rattle.rd_tree.specs.declared.tree.Node.TheVariants as variant
use Rattle.rd_names.specs.declared.refusal.Broken.TheVariants as b
use Rattle.rd_routine.specs.Forms.{Plain, Wrong, Mapping, Catching, held, name_alone, form_of}
use Rattle.rd_names.specs.Uses.{joined, special_at}
use Rattle.rd_names.specs.Names.{Known, told_by, is_among, with_name, unless, at, node_refusals}
use Rattle.rd_names.proofs.Walking.{behind, then_behind, two_parts, third_behind, fourth_behind, alone, nothing}
use Rattle.rd_routine.proofs.Forms.{HasNone, has_none}
use Rattle.rd_names.proofs.UseLayers.{node_lit, node_name, node_call, node_method, node_index, node_compare, node_chain, node_and, node_or, node_list, node_cond, node_dict, node_path, node_neg, node_not}
use Rattle.rd_names.proofs.OneMore.{node_comp_with}
use Rattle.rd_names.proofs.Operations.{is_one, is_none}
use Rattle.rd_names.proofs.uses.+nodes.Goals as goal

pub judge_node-returns-in-Lit-clause-all : goal.judge_node-returns-in-Lit-clause-all
judge_node-returns-in-Lit-clause-all t c =
    let f = told_by c.args.known.now in
    let l = is_among c.args.locals.now.keys in
    nothing c.args.all.now.items _ (ap (node_refusals f l) c.in-Lit.is ∙ node_lit f l c.in-Lit.field-0)

pub judge_node-returns-in-Name-clause-all : goal.judge_node-returns-in-Name-clause-all
judge_node-returns-in-Name-clause-all t c =
    let f = told_by c.args.known.now in
    let l = is_among c.args.locals.now.keys in
    let here : c.contains.result ≡ is_among c.args.locals.now.keys c.in-Name.name.text = c.contains.ensures in
    alone c.expect.result c.args.all.now.items c.expect.new.all.items (unless c.contains.result (at b.UnknownName c.in-Name.name)) _ c.expect.ensures
    (ap (node_refusals f l) c.in-Name.is ∙ node_name f l c.in-Name.name ∙ ap (λ k. unless k (at b.UnknownName c.in-Name.name)) (sym here))

pub judge_call-returns-in_ok-judge_called-in-Plain-clause-all : goal.judge_call-returns-in_ok-judge_called-in-Plain-clause-all
judge_call-returns-in_ok-judge_called-in-Plain-clause-all t c =
    let f = told_by c.args.known.now in
    let l = is_among c.args.locals.now.keys in
    let ps = c.args.positional.now in
    let ks = c.args.keywords.now in
    let read : form_of name_alone (special_at c.args.name.now) ps ks ≡ Plain = sym (rw (c.special_named.ensures, c.as_str.ensures.value, c.as_slice-positional.ensures, c.as_slice-keywords.ensures) at c.form_of.ensures) ∙ ap held c.in-Plain.is in
    then_behind ◌++◌ behind c.judge_arguments.result c.args.all.now.items c.judge_called.new.all.items c.judge_arguments.new.all.items _ _ _ (rw (c.as_slice-positional.ensures, c.as_slice-keywords.ensures) at c.judge_arguments.ensures.all) (rw (c.may_be_called-may.ensures, c.as_slice-keywords.ensures) at c.in_ok-judge_called-in-Plain.ensures)
    (node_call f l c.args.name.now ps ks Plain read)

pub judge_call-returns-in_ok-judge_called-in-Wrong-clause-all : goal.judge_call-returns-in_ok-judge_called-in-Wrong-clause-all
judge_call-returns-in_ok-judge_called-in-Wrong-clause-all t c =
    let f = told_by c.args.known.now in
    let l = is_among c.args.locals.now.keys in
    let ps = c.args.positional.now in
    let ks = c.args.keywords.now in
    let read : form_of name_alone (special_at c.args.name.now) ps ks ≡ Wrong = sym (rw (c.special_named.ensures, c.as_str.ensures.value, c.as_slice-positional.ensures, c.as_slice-keywords.ensures) at c.form_of.ensures) ∙ ap held c.in-Wrong.is in
    then_behind ◌++◌ behind c.judge_arguments-in-Wrong.result c.args.all.now.items c.judge_called-in-Wrong.new.all.items c.judge_arguments-in-Wrong.new.all.items _ _ _ (rw (c.as_slice-positional.ensures, c.as_slice-keywords.ensures) at c.judge_arguments-in-Wrong.ensures.all) (rw c.as_slice-keywords.ensures at c.in_ok-judge_called-in-Wrong.ensures)
    (node_call f l c.args.name.now ps ks Wrong read)

pub judge_call-returns-in_ok-expect-in-Mapping-clause-all : goal.judge_call-returns-in_ok-expect-in-Mapping-clause-all
judge_call-returns-in_ok-expect-in-Mapping-clause-all t c =
    let f = told_by c.args.known.now in
    let l = is_among c.args.locals.now.keys in
    let ps = c.args.positional.now in
    let ks = c.args.keywords.now in
    let mapped = Mapping c.in-Mapping.task.now c.in-Mapping.list.now in
    let read : form_of name_alone (special_at c.args.name.now) ps ks ≡ mapped = sym (rw (c.special_named.ensures, c.as_str.ensures.value, c.as_slice-positional.ensures, c.as_slice-keywords.ensures) at c.form_of.ensures) ∙ ap held c.in-Mapping.is in
    let none : ks ≡ [] = subst (HasNone ks) read (has_none name_alone (special_at c.args.name.now) ps ks) in
    third_behind c.judge_node.result c.args.all.now.items c.judge_called-in-Mapping.new.all.items c.expect.new.all.items c.judge_node.new.all.items _ _ _ _ c.judge_node.ensures.all
    (rw c.is_task.ensures at c.in_ok-expect-in-Mapping.ensures) (rw (c.may_be_called-may.ensures, c.as_slice-keywords.ensures, none) at c.in_ok-judge_called-in-Mapping.ensures) (node_call f l c.args.name.now ps ks mapped read)

pub judge_call-returns-in_ok-expect-in-Catching-clause-all : goal.judge_call-returns-in_ok-expect-in-Catching-clause-all
judge_call-returns-in_ok-expect-in-Catching-clause-all t c =
    let f = told_by c.args.known.now in
    let l = is_among c.args.locals.now.keys in
    let ps = c.args.positional.now in
    let ks = c.args.keywords.now in
    let caught = Catching c.in-Catching.tried.now c.in-Catching.class.now c.in-Catching.recover.now in
    let read : form_of name_alone (special_at c.args.name.now) ps ks ≡ caught = sym (rw (c.special_named.ensures, c.as_str.ensures.value, c.as_slice-positional.ensures, c.as_slice-keywords.ensures) at c.form_of.ensures) ∙ ap held c.in-Catching.is in
    let none : ks ≡ [] = subst (HasNone ks) read (has_none name_alone (special_at c.args.name.now) ps ks) in
    let same = c.in_ok-judge_node-in-Catching.ensures.locals in
    fourth_behind c.expect-in-Catching-2.result c.args.all.now.items c.judge_called-in-Catching.new.all.items c.judge_node-in-Catching.new.all.items c.expect-in-Catching.new.all.items c.expect-in-Catching-2.new.all.items _ _ _ _ _
    (rw (c.is_task-in-Catching.ensures, same) at c.expect-in-Catching-2.ensures) (rw (c.is_raisable.ensures, same) at c.in_ok-expect-in-Catching.ensures) c.in_ok-judge_node-in-Catching.ensures.all
    (rw (c.may_be_called-may.ensures, c.as_slice-keywords.ensures, none) at c.in_ok-judge_called-in-Catching.ensures) (node_call f l c.args.name.now ps ks caught read)

pub judge_operation-returns-in_ok-judge_node-in-Method-clause-all : goal.judge_operation-returns-in_ok-judge_node-in-Method-clause-all
judge_operation-returns-in_ok-judge_node-in-Method-clause-all t c =
    let f = told_by c.args.known.now in
    let l = is_among c.args.locals.now.keys in
    then_behind ◌++◌ behind c.judge_nodes.result c.args.all.now.items c.judge_node.new.all.items c.judge_nodes.new.all.items _ _ _
    (rw (c.in_ok-judge_node-in-Method.ensures.locals, c.as_slice.ensures) at c.judge_nodes.ensures.all) (rw c.get-in-Method.ensures at c.in_ok-judge_node-in-Method.ensures.all)
    (ap (node_refusals f l) c.in-Method.is ∙ node_method f l c.in-Method.receiver c.in-Method.name c.in-Method.arguments)

pub judge_node-returns-in-Dict-clause-all : goal.judge_node-returns-in-Dict-clause-all
judge_node-returns-in-Dict-clause-all t c =
    let f = told_by c.args.known.now in
    let l = is_among c.args.locals.now.keys in
    alone c.judge_pairs.result c.args.all.now.items c.judge_pairs.new.all.items _ _ (rw c.as_slice.ensures at c.judge_pairs.ensures.all) (ap (node_refusals f l) c.in-Dict.is ∙ node_dict f l c.in-Dict.pairs)

several : (f : Known) (l : List ℕ → Bool) (n : Node Name) (xs : List (Node Name)) → (n ≡ variant.And xs) ⊎ ((n ≡ variant.Or xs) ⊎ (n ≡ variant.List xs)) → node_refusals f l n ≡ joined (map (node_refusals f l) xs)
several f l n xs (inl e) = ap (node_refusals f l) e ∙ node_and f l xs
several f l n xs (inr (inl e)) = ap (node_refusals f l) e ∙ node_or f l xs
several f l n xs (inr (inr e)) = ap (node_refusals f l) e ∙ node_list f l xs

pub judge_node-returns-in-And-clause-all : goal.judge_node-returns-in-And-clause-all
judge_node-returns-in-And-clause-all t c =
    let f = told_by c.args.known.now in
    let l = is_among c.args.locals.now.keys in
    alone c.judge_nodes.result c.args.all.now.items c.judge_nodes.new.all.items _ _ (rw c.as_slice-in-And.ensures at c.judge_nodes.ensures.all) (several f l c.args.node.now c.in-And.parts c.in-And.is)

single : (f : Known) (l : List ℕ → Bool) (n part : Node Name) → (n ≡ variant.Path part) ⊎ ((n ≡ variant.Neg part) ⊎ (n ≡ variant.Not part)) → node_refusals f l n ≡ node_refusals f l part
single f l n part (inl e) = ap (node_refusals f l) e ∙ node_path f l part
single f l n part (inr (inl e)) = ap (node_refusals f l) e ∙ node_neg f l part
single f l n part (inr (inr e)) = ap (node_refusals f l) e ∙ node_not f l part

pub judge_operation-returns-in-Path-clause-all : goal.judge_operation-returns-in-Path-clause-all
judge_operation-returns-in-Path-clause-all t c =
    let f = told_by c.args.known.now in
    let l = is_among c.args.locals.now.keys in
    alone c.judge_node-in-Path.result c.args.all.now.items c.judge_node-in-Path.new.all.items _ _ (rw c.get-in-Path.ensures at c.judge_node-in-Path.ensures.all) (single f l c.args.node.now c.in-Path.part c.in-Path.is)

pub judge_operation-returns-in-Index-clause-all : goal.judge_operation-returns-in-Index-clause-all
judge_operation-returns-in-Index-clause-all t c =
    let f = told_by c.args.known.now in
    let l = is_among c.args.locals.now.keys in
    alone c.judge_both.result c.args.all.now.items c.judge_both.new.all.items _ _ (rw (c.get.ensures, c.get-in-Index.ensures) at c.judge_both.ensures.all)
    (ap (node_refusals f l) c.in-Index.is ∙ node_index f l c.in-Index.receiver c.in-Index.index)

pub judge_operation-returns-in-Compare-clause-all : goal.judge_operation-returns-in-Compare-clause-all
judge_operation-returns-in-Compare-clause-all t c =
    let f = told_by c.args.known.now in
    let l = is_among c.args.locals.now.keys in
    alone c.judge_both-in-Compare.result c.args.all.now.items c.judge_both-in-Compare.new.all.items _ _ (rw (c.get-in-Compare.ensures, c.get-in-Compare-2.ensures) at c.judge_both-in-Compare.ensures.all)
    (ap (node_refusals f l) c.in-Compare.is ∙ node_compare f l c.in-Compare.operator c.in-Compare.left c.in-Compare.right)

pub judge_operation-returns-in-Chain-clause-all : goal.judge_operation-returns-in-Chain-clause-all
judge_operation-returns-in-Chain-clause-all t c =
    let f = told_by c.args.known.now in
    let l = is_among c.args.locals.now.keys in
    alone c.judge_chain.result c.args.all.now.items c.judge_chain.new.all.items _ _ c.judge_chain.ensures.all (ap (node_refusals f l) c.in-Chain.is ∙ node_chain f l c.in-Chain.first c.in-Chain.rest)

pub judge_operation-returns-in-Cond-clause-all : goal.judge_operation-returns-in-Cond-clause-all
judge_operation-returns-in-Cond-clause-all t c =
    let f = told_by c.args.known.now in
    let l = is_among c.args.locals.now.keys in
    alone c.judge_choice.result c.args.all.now.items c.judge_choice.new.all.items _ _ c.judge_choice.ensures.all (ap (node_refusals f l) c.in-Cond.is ∙ node_cond f l c.in-Cond.test c.in-Cond.when_true c.in-Cond.when_false)

pub judge_node-returns-in_ok-judge_node-in-Comp-clause-all : goal.judge_node-returns-in_ok-judge_node-in-Comp-clause-all
judge_node-returns-in_ok-judge_node-in-Comp-clause-all t c =
    let f = told_by c.args.known.now in
    let l = is_among c.args.locals.now.keys in
    then_behind ◌++◌ behind c.judge_within.result c.args.all.now.items c.judge_node.new.all.items c.judge_within.new.all.items _ _ _
    (rw c.in_ok-judge_node-in-Comp.ensures.locals at c.judge_within.ensures.all) (rw c.get.ensures at c.in_ok-judge_node-in-Comp.ensures.all)
    (ap (node_refusals f l) c.in-Comp.is ∙ node_comp_with f c.args.locals.now.keys c.in-Comp.element c.in-Comp.name c.in-Comp.iterable c.in-Comp.condition)

pub judge_within-returns-clause-all : goal.judge_within-returns-clause-all
judge_within-returns-clause-all t c =
    let put : c.insert.new.self.keys ≡ with_name c.args.locals.now.keys c.args.name.now.text = rw c.in_ok-copy.ensures at c.in_ok-insert.ensures.keys in
    let inner : is_among c.insert.new.self.keys ≡ is_among (with_name c.args.locals.now.keys c.args.name.now.text) = ap is_among put in
    let tested = rw c.in_ok-judge_node.ensures.locals at c.in_ok-judge_nodes.ensures.all in
    two_parts c.args.all.now.items c.judge_node.new.all.items c.judge_nodes.new.all.items _ _ (rw (inner, c.as_slice.ensures) at tested) (rw (inner, c.get.ensures) at c.in_ok-judge_node.ensures.all)

pub judge_node-judge_operation-requires : goal.judge_node-judge_operation-requires
judge_node-judge_operation-requires t c = (
  omega (arith, c.decreases),
  is_one c.args.node.now (record {
    lit = c.in_default.not-Lit;
    name = c.in_default.not-Name;
    call = c.in_default.not-Call;
    conjunction = c.in_default.not-And;
    disjunction = c.in_default.not-Or;
    list = c.in_default.not-List;
    dict = c.in_default.not-Dict;
    comprehension = c.in_default.not-Comp;
  }),
)

pub judge_operation-unreachable-requires : goal.judge_operation-unreachable-requires
judge_operation-unreachable-requires t c =
    is_none c.args.node.now (record {
      method = c.in_default.not-Method;
      index = c.in_default.not-Index;
      path = c.in_default.not-Path;
      negative = c.in_default.not-Neg;
      inversion = c.in_default.not-Not;
      chain = c.in_default.not-Chain;
      comparison = c.in_default.not-Compare;
      choice = c.in_default.not-Cond;
    }) c.requires
