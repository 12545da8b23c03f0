-- The methods of texts and dicts.
use Rattle.std.specs.Prelude.{ℕ, ◌==◌, nat_le, Bool, true, ◌&&◌, List, [], ◌∷◌, map, length, codes, if◌then◌else◌, Option, None, Some, Result, Ok, Err}
use Rattle.std.specs.Str.{bytes_eq}
use Rattle.rd_value.specs.declared.class.Class.TheVariants.{AttributeError, ValueError}
use Rattle.rd_value.specs.declared.value.ErrorValue.{ErrorValue}
use Rattle.rd_value.specs.declared.value.FileValue.{FileValue}
use Rattle.rd_value.specs.declared.value.Datum.{Datum, out-Datum}
use Rattle.rd_value.specs.declared.value.Datum.TheVariants as value
use Rattle.rd_value.specs.declared.value.Datum.TheOpen.{Datum-F}
use Rattle.rd_value.specs.declared.expr.Lazy.{Lazy, out-Lazy}
use Rattle.rd_value.specs.declared.expr.Lazy.TheVariants as lazy
use Rattle.rd_value.specs.declared.expr.Lazy.TheOpen.{Lazy-F}
use Rattle.rd_value.specs.Compare.{equal}
use Rattle.rd_value.specs.Expand.{listed}
use Rattle.rd_value.specs.Make.{is_key, values_of}
use Rattle.rd_value.specs.Operators.{bad_operand}
use Rattle.rd_value.specs.Raise.{raised}
use Rattle.rd_value.specs.Truth.{is_empty}
use Rattle.rd_interpreter.specs.declared.method.Method.{Method}
use Rattle.rd_interpreter.specs.declared.method.Method.TheVariants as method
use Rattle.rd_interpreter.specs.State.{Part}
use Rattle.rd_interpreter.specs.Held.{not_settled, or_not_settled, pair_held, iterated_value}
use Rattle.rd_interpreter.specs.Draft.{added}
use Rattle.rd_interpreter.specs.Making.{made, taken}
use Rattle.rd_interpreter.specs.Builtins.{bad_arguments, str, then_, produced}
use Rattle.rd_interpreter.specs.Texts.{stripped, words, begins, ends, pieces, joined, replaced, filled}

-- the error of a method that the value's kind doesn't have
abbrev pub no_method : List ℕ → ErrorValue
no_method name = raised AttributeError name

-- the error of an empty text between pieces
abbrev pub empty_separator : ErrorValue
empty_separator = record { class = ValueError; text = codes "empty separator" }

-- the error of an empty text to replace
abbrev pub empty_pattern : ErrorValue
empty_pattern = record { class = ValueError; text = codes "empty pattern" }

-- ---- names and numbers of arguments

abbrev pub text_method : List ℕ → Option Method
text_method name =
    if bytes_eq name (codes "format") then Some method.Format
    else if bytes_eq name (codes "split") then Some method.Split
    else if bytes_eq name (codes "join") then Some method.Join
    else if bytes_eq name (codes "strip") then Some method.Strip
    else if bytes_eq name (codes "startswith") then Some method.StartsWith
    else if bytes_eq name (codes "endswith") then Some method.EndsWith
    else if bytes_eq name (codes "replace") then Some method.Replace
    else None

abbrev pub dict_method : List ℕ → Option Method
dict_method name =
    if bytes_eq name (codes "get") then Some method.Get
    else if bytes_eq name (codes "keys") then Some method.Keys
    else if bytes_eq name (codes "values") then Some method.Values
    else if bytes_eq name (codes "items") then Some method.Items
    else None

abbrev pub takes : Method → ℕ → Bool
takes method.Format n = true
takes method.Split n = nat_le n 1
takes method.Join n = n == 1
takes method.Strip n = n == 0
takes method.StartsWith n = n == 1
takes method.EndsWith n = n == 1
takes method.Replace n = n == 2
takes method.Get n = nat_le 1 n && nat_le n 2
takes method.Keys n = n == 0
takes method.Values n = n == 0
takes method.Items n = n == 0

-- the values of arguments: their number comes first, then that they are settled
abbrev pub arguments_of : {F : Type 0} → Method → List (Lazy F) → Result (List (Datum F)) ErrorValue
arguments_of m es = if takes m (length es) then or_not_settled (values_of es) else Err bad_arguments

-- ---- texts

abbrev pub text_at : {F X : Type 0} → Datum-F F X → Option (List ℕ)
text_at (Datum-F.Text t) = Some t
text_at _ = None

-- the text of a value that is one
abbrev pub text_of : {F : Type 0} → Datum F → Option (List ℕ)
text_of {F} v = text_at (out-Datum F v)

abbrev pub with_text : Option (List ℕ) → Option (List (List ℕ)) → Option (List (List ℕ))
with_text (Some t) (Some ts) = Some (t ∷ ts)
with_text _ _ = None

-- the texts of values that all are texts
abbrev pub texts_of : {F : Type 0} → List (Datum F) → Option (List (List ℕ))
texts_of [] = Some []
texts_of (v ∷ vs) = with_text (text_of v) (texts_of vs)

abbrev pub texts : {F : Type 0} → List (List ℕ) → Datum F
texts ts = value.List (map value.Text ts)

abbrev pub text_value : {F : Type 0} → Result (List ℕ) ErrorValue → Result (Datum F) ErrorValue
text_value (Ok t) = Ok (value.Text t)
text_value (Err e) = Err e

abbrev pub split_by : {F : Type 0} → List ℕ → Option (List ℕ) → Result (Datum F) ErrorValue
split_by t None = Err bad_operand
split_by t (Some s) = if is_empty s then Err empty_separator else Ok (texts (pieces s t))

abbrev pub joined_by : {F : Type 0} → List ℕ → Option (List (List ℕ)) → Result (Datum F) ErrorValue
joined_by t None = Err bad_operand
joined_by t (Some ts) = Ok (value.Text (joined t ts))

abbrev pub held_text_at : {F X : Type 0} → Lazy-F F X → Option (List ℕ)
held_text_at (Lazy-F.Val v) = text_of v
held_text_at _ = None

-- the text of an expression that is one
abbrev pub held_text : {F : Type 0} → Lazy F → Option (List ℕ)
held_text {F} e = held_text_at (out-Lazy F e)

-- texts at the end of a draft, the first behind one text and the others behind a separator
abbrev pub led : {F : Type 0} → List ℕ → List ℕ → Option (List ℕ) → List (Lazy F) → Result (Option (List ℕ)) ErrorValue
led between separator draft [] = Ok draft
led between separator draft (e ∷ es) = elim (held_text e) [
  | None ↦ Err bad_operand
  | Some t ↦ led separator separator (added (added draft between) t) es
]

abbrev pub tested : {F : Type 0} → (List ℕ → List ℕ → Bool) → List ℕ → Option (List ℕ) → Result (Datum F) ErrorValue
tested test t None = Err bad_operand
tested test t (Some s) = Ok (value.Bool (test s t))

abbrev pub replaced_by : {F : Type 0} → List ℕ → Option (List ℕ) → Option (List ℕ) → Result (Datum F) ErrorValue
replaced_by t (Some old) (Some new) = if is_empty old then Err empty_pattern else Ok (value.Text (replaced old new t))
replaced_by t _ _ = Err bad_operand

-- ---- dicts

-- the value under a key
abbrev pub value_under : {F V : Type 0} → (F → FileValue) → Datum F → List (Datum F × V) → Option V
value_under file key [] = None
value_under file key (p ∷ ps) = if equal file p.0 key then Some p.1 else value_under file key ps

abbrev pub or_else : {A : Type 0} → Option A → A → A
or_else (Some a) b = a
or_else None b = b

module _ {F : Type 0} (file : F → FileValue) where
  -- a key and its value
  abbrev pub item : Datum F × Lazy F → Lazy F
  item p = listed file (lazy.Val p.0 ∷ p.1 ∷ [])

  abbrev pub got : List (Datum F × Lazy F) → Datum F → Datum F → Result (Lazy F) ErrorValue
  got ps key other = if is_key key then Ok (or_else (value_under file key ps) (lazy.Val other)) else Err bad_operand

  module _ {N : Type 0} where
    -- a method of a text on settled values
    abbrev pub on_text : Method → List ℕ → List (Datum F) → Part N F (Lazy F)
    on_text method.Format t vs = produced file (text_value (filled t (map (str file) vs)))
    on_text method.Split t [] = produced file (Ok (texts (words t)))
    on_text method.Split t (v ∷ []) = produced file (split_by t (text_of v))
    on_text method.Join t (v ∷ []) = produced file (then_ (iterated_value v) (λ vs. joined_by t (texts_of vs)))
    on_text method.Strip t [] = produced file (Ok (value.Text (stripped t)))
    on_text method.StartsWith t (v ∷ []) = taken (tested begins t (text_of v))
    on_text method.EndsWith t (v ∷ []) = taken (tested ends t (text_of v))
    on_text method.Replace t (v ∷ w ∷ []) = produced file (replaced_by t (text_of v) (text_of w))
    on_text _ t vs = taken (Err bad_arguments)

    -- what was there already
    abbrev pub held : Result (Lazy F) ErrorValue → Part N F (Lazy F)
    held (Ok e) s = Ok (e, s)
    held (Err e) s = Err e

    -- a method of a dict on settled values
    abbrev pub on_dict : Method → List (Datum F × Lazy F) → List (Datum F) → Part N F (Lazy F)
    on_dict method.Get ps (k ∷ []) = held (got ps k value.Nothing)
    on_dict method.Get ps (k ∷ v ∷ []) = held (got ps k v)
    on_dict method.Keys ps [] = made file (listed file (map (λ p. lazy.Val p.0) ps))
    on_dict method.Values ps [] = made file (listed file (map (λ p. p.1) ps))
    on_dict method.Items ps [] = made file (listed file (map item ps))
    on_dict _ ps vs = taken (Err bad_arguments)

    abbrev pub on_arguments : (List (Datum F) → Part N F (Lazy F)) → Result (List (Datum F)) ErrorValue → Part N F (Lazy F)
    on_arguments go (Ok vs) = go vs
    on_arguments go (Err e) = taken (Err e)

    -- the name comes before the arguments
    abbrev pub on_method : (Method → List (Datum F) → Part N F (Lazy F)) → ErrorValue → Option Method → List (Lazy F) → Part N F (Lazy F)
    on_method go none None es = taken (Err none)
    on_method go none (Some m) es = on_arguments (go m) (arguments_of m es)

    abbrev pub of_value : Datum-F F (Datum F) → List ℕ → List (Lazy F) → Part N F (Lazy F)
    of_value (Datum-F.Text t) name es = on_method (λ m. on_text m t) (no_method name) (text_method name) es
    of_value (Datum-F.Dict ps) name es = on_method (λ m. on_dict m (map pair_held ps)) (no_method name) (dict_method name) es
    of_value _ name es = taken (Err (no_method name))

    abbrev pub of_held : Lazy-F F (Lazy F) → List ℕ → List (Lazy F) → Part N F (Lazy F)
    of_held (Lazy-F.Val v) name es = of_value (out-Datum F v) name es
    of_held (Lazy-F.DictOf ps) name es = on_method (λ m. on_dict m ps) not_settled (dict_method name) es
    of_held _ name es = taken (Err not_settled)

    -- a method of what stands before the dot
    abbrev pub on_receiver : Lazy F → List ℕ → List (Lazy F) → Part N F (Lazy F)
    on_receiver e name es = of_held (out-Lazy F e) name es
