-- What the tokens of a whole module, or of a whole literal, are read as.
use Rattle.std.proofs.Common.{◌≡◌, ℕ, true, false, List, [], Option, Some, None, Result, Ok, Err, sym, subst, ◌∙◌, ◌≢◌}
use Rattle.std.specs.Prelude.{IfOk, IfNone}
use Rattle.rd_base.specs.declared.memory.OutOfMemory.{OutOfMemory}
use Rattle.rd_syntax.specs.Sources.{Lexes}
use Rattle.rd_value.specs.Limits.{is_within}
use Rattle.rd_syntax.proofs.Stops.{one_answer}
use Rattle.rd_syntax.specs.declared.token.Token.{Token}
use Rattle.rd_tree.specs.declared.tree.Module.{Module}
use Rattle.rd_parse.specs.Form.{StopsAt}
use Rattle.rd_parse.specs.Nesting.{TooDeep}
use Rattle.rd_parse.specs.Reader.{Stop, Refused, Deep}
use Rattle.rd_parse.specs.Literals.{Literal, literal_text, IsLiteral, Spells}
use Rattle.rd_parse.specs.LiteralReading.{read_literal_text}
use Rattle.rd_parse.specs.Modules.{module_form, IsModule}
use Rattle.rd_parse.specs.ModuleReading.{read_module}
use Rattle.rd_parse.specs.Refusals.{Sinks, Breaks}
use Rattle.rd_parse.proofs.Laws.{got_value, got_rest}
use Rattle.rd_parse.proofs.Whole.{text_found, text_only, one_value, text_refused, text_more, text_deep}
use Rattle.rd_parse.proofs.Literals.{literal_text_lawful, literal_text_grows, literal_text_dives}
use Rattle.rd_parse.proofs.Modules.{module_lawful, module_grows, module_dives}

abbrev levels : ℕ
levels = 64

-- one less
abbrev spare : ℕ
spare = 63

-- ---- modules

pub module_found : (ts rest : List Token) (m : Module) → read_module 64 ts ≡ Ok (m, rest) → rest ≡ [] → IsModule ts m
unfolding IsModule
module_found ts rest m e none = text_found module_form read_module _ _ false module_grows module_lawful levels m ts (subst (λ (r : List Token). read_module 64 ts ≡ Ok (m, r)) none e)

pub module_only : (ts : List Token) (m : Module) → IsModule ts m → read_module 64 ts ≡ Ok (m, [])
unfolding IsModule
module_only ts m h = text_only module_form read_module _ _ false module_grows module_lawful levels m ts h

-- what was read is the only module
pub module_is : (ts rest : List Token) (m n : Module) → read_module 64 ts ≡ Ok (m, rest) → IsModule ts n → m ≡ n
module_is ts rest m n e h = got_value m n rest [] (sym e ∙ module_only ts n h)

-- tokens behind the module are refused
pub module_longer : (ts rest : List Token) (m n : Module) → rest ≢ [] → read_module 64 ts ≡ Ok (m, rest) → IsModule ts n → ⊥
module_longer ts rest m n some e h = some (got_rest m n rest [] (sym e ∙ module_only ts n h))

-- what isn't read is no module
pub module_not_read : (ts : List Token) (s : Stop Token) (n : Module) → read_module 64 ts ≡ Err s → IsModule ts n → ⊥
module_not_read ts s n e h = let no : read_module 64 ts ≡ Ok (n, []) = module_only ts n h in cc

-- tokens spell at most one module
pub one_module : (ts : List Token) (m n : Module) → IsModule ts m → IsModule ts n → m ≡ n
unfolding IsModule
one_module ts m n h k = one_value module_form read_module _ _ false module_grows module_lawful levels levels m n ts h k

-- where reading stops, no module's tokens go on
pub module_refused : (ts after : List Token) → read_module 64 ts ≡ Err (Refused after) → StopsAt module_form ts after
module_refused ts after e = text_refused module_form read_module _ _ false module_grows module_lawful levels ts after e

pub module_stops : (ts after : List Token) (m : Module) → after ≢ [] → read_module 64 ts ≡ Ok (m, after) → StopsAt module_form ts after
module_stops ts after m some e = text_more module_form read_module _ _ false module_grows module_lawful levels ts m after some e

-- where a module opens one level too many
pub module_deep : (ts after : List Token) → read_module 64 ts ≡ Err (Deep after) → TooDeep module_form 64 ts after
module_deep ts after e = text_deep module_form read_module _ _ false module_grows module_lawful spare (module_dives levels) ts after e

-- where the tokens are refused
pub module_sinks : (ts left : List Token) → read_module 64 ts ≡ Err (Deep left) → Sinks ts left
module_sinks ts left e = record { reads = e; deep = module_deep ts left e }

pub module_breaks : (ts left : List Token) → read_module 64 ts ≡ Err (Refused left) → Breaks ts left
module_breaks ts left e = record { level = λ deep s. let no : read_module 64 ts ≡ Err (Deep deep) = s.reads in cc; stops = module_refused ts left e }

pub module_behind : (ts left : List Token) (m : Module) → left ≢ [] → read_module 64 ts ≡ Ok (m, left) → Breaks ts left
module_behind ts left m some e = record { level = λ deep s. let no : read_module 64 ts ≡ Err (Deep deep) = s.reads in cc; stops = module_stops ts left m some e }

-- ---- literals

pub literal_found : (ts rest : List Token) (v : Literal) → read_literal_text 64 ts ≡ Ok (v, rest) → rest ≡ [] → IsLiteral ts v
unfolding IsLiteral
literal_found ts rest v e none = text_found literal_text read_literal_text _ _ false literal_text_grows literal_text_lawful levels v ts (subst (λ (r : List Token). read_literal_text 64 ts ≡ Ok (v, r)) none e)

pub literal_only : (ts : List Token) (v : Literal) → IsLiteral ts v → read_literal_text 64 ts ≡ Ok (v, [])
unfolding IsLiteral
literal_only ts v h = text_only literal_text read_literal_text _ _ false literal_text_grows literal_text_lawful levels v ts h

-- what was read is the only literal
pub literal_is : (ts rest : List Token) (v u : Literal) → read_literal_text 64 ts ≡ Ok (v, rest) → IsLiteral ts u → v ≡ u
literal_is ts rest v u e h = got_value v u rest [] (sym e ∙ literal_only ts u h)

-- tokens behind the literal are refused
pub literal_longer : (ts rest : List Token) (v u : Literal) → rest ≢ [] → read_literal_text 64 ts ≡ Ok (v, rest) → IsLiteral ts u → ⊥
literal_longer ts rest v u some e h = some (got_rest v u rest [] (sym e ∙ literal_only ts u h))

-- what isn't read is no literal
pub literal_not_read : (ts : List Token) (s : Stop Token) (u : Literal) → read_literal_text 64 ts ≡ Err s → IsLiteral ts u → ⊥
literal_not_read ts s u e h = let no : read_literal_text 64 ts ≡ Ok (u, []) = literal_only ts u h in cc

-- tokens spell at most one literal
pub one_literal : (ts : List Token) (v u : Literal) → IsLiteral ts v → IsLiteral ts u → v ≡ u
unfolding IsLiteral
one_literal ts v u h k = one_value literal_text read_literal_text _ _ false literal_text_grows literal_text_lawful levels levels v u ts h k

-- a text spells at most one value
pub one_spelled : (text : List ℕ) (v u : Literal) → Spells text v → Spells text u → v ≡ u
one_spelled text v u p q =
    one_literal p.tokens v u p.literal (subst (λ (ts : List Token). IsLiteral ts u) (one_answer text q.tokens p.tokens q.lexes.has p.lexes.has) q.literal)

pub literal_deep : (ts after : List Token) → read_literal_text 64 ts ≡ Err (Deep after) → TooDeep literal_text 64 ts after
literal_deep ts after e = text_deep literal_text read_literal_text _ _ false literal_text_grows literal_text_lawful spare (literal_text_dives levels) ts after e

-- a text whose tokens spell no value spells none
pub none_spelled : (text : List ℕ) (ts : List Token) (read : Result (Option Literal) OutOfMemory) → ((us : List Token) → Lexes text us → ts ≡ us)
    → IfOk read (λ o. IfNone o ((v : Literal) → IsLiteral ts v → is_within (λ f. f) v ≡ true → ⊥)) → IfOk read (λ o. IfNone o ((v : Literal) → Spells text v → ⊥))
none_spelled text ts (Ok (Some v)) same h = h
none_spelled text ts (Ok None) same h = λ v s. h v (subst (λ (us : List Token). IsLiteral us v) (sym (same s.tokens s.lexes)) s.literal) s.within
none_spelled text ts (Err e) same h = h
