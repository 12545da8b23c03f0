use Rattle.std.proofs.Common.{◌≡◌, ℕ, List, ◌∷◌, map, drop, codes, sym, ap, subst, ◌∙◌, string_bytes, String, Global}
use Rattle.rd_base.specs.Path.{is_path}
use Rattle.rd_top.specs.Command.{IsOperand, AreArguments}
use Rattle.rd_top.proofs.Asked.{three, rest_is, not_different, not_empty, lawful_where_made}
use Rattle.rd_top.proofs.command.read_command.Goals as goal

pub returns-in-Ok : goal.returns-in-Ok
returns-in-Ok c =
    let words = three c.args.words.now c.run-item.result c.file-item.result c.task-item.result c.in-len3-up.len_at_least c.run-item.is c.file-item.is c.task-item.is in
    let more : List (List ℕ) = map string_bytes (drop 3 c.args.words.now) in
    let run : string_bytes c.run-item.result ≡ codes "run" = sym c.as_str.ensures.value ∙ not_different c.as_str.result.now (codes "run") c.ne.result c.ne.ensures c.if-ne.false in
    let task : c.in_ok-from_str-in-Ok.field-0 ≡ string_bytes c.task-item.result = c.in_ok-from_str-in-Ok.ensures ∙ c.as_str-in-Ok.ensures.value in
    let file : c.in-Ok.file ≡ string_bytes c.file-item.result = c.in-Ok.ensures.ok ∙ c.as_str-in-len3-up.ensures.value in
    record {
      more = more;
      words_are = ap (map string_bytes) words ∙ ap (λ (w : List ℕ). w ∷ string_bytes c.file-item.result ∷ string_bytes c.task-item.result ∷ more) run
          ∙ ap (λ (w : List ℕ). codes "run" ∷ w ∷ string_bytes c.task-item.result ∷ more) (sym file) ∙ ap (λ (w : List ℕ). codes "run" ∷ c.in-Ok.file ∷ w ∷ more) (sym task);
      file_is = subst IsOperand (c.as_str-else-ne.ensures.value ∙ sym file) (c.is_operand.ensures.0 c.if-not-is_operand.false);
      task_is = subst IsOperand (c.as_str-else-not-is_operand.ensures.value ∙ sym task) (c.is_operand-else-not-is_operand.ensures.0 c.if-not-is_operand-2.false);
      lawful = ap is_path c.in-Ok.ensures.ok ∙ lawful_where_made (is_path c.as_str-in-len3-up.result.now) c.new.result _ c.in-Ok.file c.new.ensures.refused c.in-Ok.is;
      named = λ none. not_empty c.as_str-else-not-is_operand-2.result.now c.is_empty.result c.is_empty.ensures c.if-is_empty.false (c.as_str-else-not-is_operand-2.ensures.value ∙ sym task ∙ none);
      given = subst (λ (ws : List (String Global)). AreArguments (map string_bytes ws) c.in-Some.arguments) (rest_is c.args.words.now) (rw c.in-Some.is at c.in_ok-arguments-in-len3-up.ensures);
    }
