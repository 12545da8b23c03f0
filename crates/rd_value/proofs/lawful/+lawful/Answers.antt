use Rattle.std.proofs.Common.{rules, List, subst, sym}
use Rattle.std.proofs.lemmas.Int.{to_z-of_z}
use mir.Val.{SFits}
use mir.Syntax.{w64}
use Rattle.rd_value.specs.declared.value.FileValue.{FileValue}
use Rattle.rd_value.specs.declared.value.Datum.{Datum}
use Rattle.rd_value.specs.Lawful.{IsLawful}
use Rattle.rd_value.proofs.Ind.{Each, EachPair}
use Rattle.rd_value.proofs.LawfulValues.{lawful_nothing, lawful_bool, lawful_int, lawful_text, lawful_list, lawful_dict, lawful_file, lawful_error}
use Rattle.rd_value.proofs.Walks.{none_left}
use Rattle.rd_value.proofs.lawful.+lawful.Goals as goal

pub returns-in-Nothing : goal.returns-in-Nothing
returns-in-Nothing t c = rw c.in-Nothing.is lawful_nothing

pub returns-in-Bool : goal.returns-in-Bool
returns-in-Bool t c = rw c.in-Bool.is (lawful_bool _)

pub returns-in-Int : goal.returns-in-Int
returns-in-Int t c =
    let fits : SFits w64 c.in-Int.n = search rules in
    rw c.in-Int.is (lawful_int _ fits)

pub returns-in-Text : goal.returns-in-Text
returns-in-Text t c = rw c.in-Text.is (lawful_text _ c.as_str.ensures.utf8)

pub returns-in-File : goal.returns-in-File
returns-in-File t c = rw c.in-File.is (lawful_file _ c.as_str-in-File.ensures.lawful c.has_32_bytes.ensures)

pub returns-in-Error : goal.returns-in-Error
returns-in-Error t c = rw c.in-Error.is (lawful_error _ c.as_str-in-Error.ensures.utf8)

pub returns-after-loop-item : goal.returns-after-loop-item
returns-after-loop-item t c =
    rw (c.in-List.is, ← c.as_slice-item-items.ensures)
    (lawful_list c.as_slice-item-items.result.now
    (c.loop-item.invariant (subst (λ (ys : List (Datum FileValue)). Each IsLawful ys) (sym (none_left c.as_slice-item-items.result.now c.loop-item.item-index c.loop-item-test.false)) tt)))

pub returns-after-loop-key : goal.returns-after-loop-key
returns-after-loop-key t c =
    rw (c.in-Dict.is, ← c.as_slice-key-items.ensures)
    (lawful_dict c.as_slice-key-items.result.now
    (c.loop-key.invariant (subst (λ (ys : List (Datum FileValue × Datum FileValue)). EachPair IsLawful ys) (sym (none_left c.as_slice-key-items.result.now c.loop-key.key-index c.loop-key-test.false)) tt)))
