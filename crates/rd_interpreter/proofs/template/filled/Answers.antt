use Rattle.std.proofs.Common.{◌≡◌, ◌<◌, ◌+◌, length, map, rules, ap, ◌∙◌}
use Rattle.std.proofs.lemmas.Str.{IsUtf8-drop}
use Rattle.rd_interpreter.specs.declared.template.Mark.TheVariants as mark
use Rattle.rd_interpreter.specs.Builtins.{str}
use Rattle.rd_interpreter.specs.Draft.{added}
use Rattle.rd_interpreter.specs.Running.{own}
use Rattle.rd_interpreter.specs.Texts.{bad_format, too_few}
use Rattle.rd_interpreter.proofs.Templates.{front, to_the_end, marked, raised_answer, none_placed, no_mark, bad_mark, no_place, left_mark, right_mark, place_mark, left_edge, right_edge, place_edge}
use Rattle.rd_interpreter.proofs.template.filled.Goals as goal
use Rattle.rd_interpreter.proofs.template.filled.Goals.{in-Left+in_ok-push-in-Left, in-Right+in_ok-push-in-Right, in-Place+in-Some+in_ok-push_value-in-Place}

pub returns-then-place-rest : goal.returns-then-place-rest
returns-then-place-rest c =
    let all : c.first_brace-place.result ≡ length c.loop-draft.rest.now = search rules in
    no_mark c.loop-draft.rest.now c.first_brace-place.result c.first_brace-place.ensures.bound c.first_brace-place.ensures.plain (map (str own) c.loop-draft.left.now) c.loop-draft.draft c.push.new.self _ (c.in_ok-push.ensures ∙ ap (added c.loop-draft.draft) (c.range.ensures.value ∙ front c.loop-draft.rest.now c.first_brace-place.result)) c.loop-draft.invariant.1 all

pub returns-in_default : goal.returns-in_default
returns-in_default c =
    let lt : c.first_brace-place.result < length c.loop-draft.rest.now = search rules in
    raised_answer _ too_few _ c.raise.ensures (no_place c.loop-draft.rest.now c.first_brace-place.result c.first_brace-place.ensures.bound c.first_brace-place.ensures.plain (map (str own) c.loop-draft.left.now) c.loop-draft.draft c.push.new.self _ (c.in_ok-push.ensures ∙ ap (added c.loop-draft.draft) (c.range.ensures.value ∙ front c.loop-draft.rest.now c.first_brace-place.result)) c.loop-draft.invariant.1 lt (c.first_brace-place.ensures.brace lt) (marked c.loop-draft.rest.now c.as_bytes-bytes.result.now _ c.first_brace-place.result _ mark.Place c.as_bytes-bytes.ensures.value (to_the_end c.as_bytes-bytes.result.now (c.first_brace-place.result + 1)) c.mark_of.ensures c.in-Place.is) (none_placed (str own) c.loop-draft.left.now c.in_default.ensures.cases))

pub returns-in-Bad : goal.returns-in-Bad
returns-in-Bad c =
    let lt : c.first_brace-place.result < length c.loop-draft.rest.now = search rules in
    raised_answer _ bad_format _ c.raise-in-Bad.ensures (bad_mark c.loop-draft.rest.now c.first_brace-place.result c.first_brace-place.ensures.bound c.first_brace-place.ensures.plain (map (str own) c.loop-draft.left.now) c.loop-draft.draft c.push.new.self _ (c.in_ok-push.ensures ∙ ap (added c.loop-draft.draft) (c.range.ensures.value ∙ front c.loop-draft.rest.now c.first_brace-place.result)) c.loop-draft.invariant.1 lt (c.first_brace-place.ensures.brace lt) (marked c.loop-draft.rest.now c.as_bytes-bytes.result.now _ c.first_brace-place.result _ mark.Bad c.as_bytes-bytes.ensures.value (to_the_end c.as_bytes-bytes.result.now (c.first_brace-place.result + 1)) c.mark_of.ensures c.in-Bad.is))

pub range_from-rest-requires : goal.range_from-rest-requires
range_from-rest-requires c =
    let lt : c.first_brace-place.result < length c.loop-draft.rest.now = search rules in
    elim c.match-mark_of.branch [
      | in-Left+in_ok-push-in-Left w ↦ λ h. left_edge c.loop-draft.rest.now c.first_brace-place.result c.first_brace-place.ensures.bound c.first_brace-place.ensures.plain (map (str own) c.loop-draft.left.now) c.loop-draft.draft c.push.new.self _ (c.in_ok-push.ensures ∙ ap (added c.loop-draft.draft) (c.range.ensures.value ∙ front c.loop-draft.rest.now c.first_brace-place.result)) c.loop-draft.invariant.1 lt (c.first_brace-place.ensures.brace lt) c.loop-draft.invariant.0 (marked c.loop-draft.rest.now c.as_bytes-bytes.result.now _ c.first_brace-place.result _ mark.Left c.as_bytes-bytes.ensures.value (to_the_end c.as_bytes-bytes.result.now (c.first_brace-place.result + 1)) c.mark_of.ensures w.in-Left.is)
      | in-Right+in_ok-push-in-Right w ↦ λ h. right_edge c.loop-draft.rest.now c.first_brace-place.result c.first_brace-place.ensures.bound c.first_brace-place.ensures.plain (map (str own) c.loop-draft.left.now) c.loop-draft.draft c.push.new.self _ (c.in_ok-push.ensures ∙ ap (added c.loop-draft.draft) (c.range.ensures.value ∙ front c.loop-draft.rest.now c.first_brace-place.result)) c.loop-draft.invariant.1 lt (c.first_brace-place.ensures.brace lt) c.loop-draft.invariant.0 (marked c.loop-draft.rest.now c.as_bytes-bytes.result.now _ c.first_brace-place.result _ mark.Right c.as_bytes-bytes.ensures.value (to_the_end c.as_bytes-bytes.result.now (c.first_brace-place.result + 1)) c.mark_of.ensures w.in-Right.is)
      | in-Place+in-Some+in_ok-push_value-in-Place w ↦ λ h. place_edge c.loop-draft.rest.now c.first_brace-place.result c.first_brace-place.ensures.bound c.first_brace-place.ensures.plain (map (str own) c.loop-draft.left.now) c.loop-draft.draft c.push.new.self _ (c.in_ok-push.ensures ∙ ap (added c.loop-draft.draft) (c.range.ensures.value ∙ front c.loop-draft.rest.now c.first_brace-place.result)) c.loop-draft.invariant.1 lt (c.first_brace-place.ensures.brace lt) c.loop-draft.invariant.0 (marked c.loop-draft.rest.now c.as_bytes-bytes.result.now _ c.first_brace-place.result _ mark.Place c.as_bytes-bytes.ensures.value (to_the_end c.as_bytes-bytes.result.now (c.first_brace-place.result + 1)) c.mark_of.ensures w.in-Place.is)
    ]

pub loop-draft-preserved : goal.loop-draft-preserved
loop-draft-preserved c =
    let lt : c.first_brace-place.result < length c.loop-draft.rest.now = search rules in
    elim c.match-mark_of.branch [
      | in-Left+in_ok-push-in-Left w ↦
          rw (w.draft-is, w.left-is, c.range_from-rest.ensures.value) (
            IsUtf8-drop c.loop-draft.rest.now (c.first_brace-place.result + 2) c.loop-draft.invariant.0 (left_edge c.loop-draft.rest.now c.first_brace-place.result c.first_brace-place.ensures.bound c.first_brace-place.ensures.plain (map (str own) c.loop-draft.left.now) c.loop-draft.draft c.push.new.self _ (c.in_ok-push.ensures ∙ ap (added c.loop-draft.draft) (c.range.ensures.value ∙ front c.loop-draft.rest.now c.first_brace-place.result)) c.loop-draft.invariant.1 lt (c.first_brace-place.ensures.brace lt) c.loop-draft.invariant.0 (marked c.loop-draft.rest.now c.as_bytes-bytes.result.now _ c.first_brace-place.result _ mark.Left c.as_bytes-bytes.ensures.value (to_the_end c.as_bytes-bytes.result.now (c.first_brace-place.result + 1)) c.mark_of.ensures w.in-Left.is)),
            left_mark c.loop-draft.rest.now c.first_brace-place.result c.first_brace-place.ensures.bound c.first_brace-place.ensures.plain (map (str own) c.loop-draft.left.now) c.loop-draft.draft c.push.new.self _ (c.in_ok-push.ensures ∙ ap (added c.loop-draft.draft) (c.range.ensures.value ∙ front c.loop-draft.rest.now c.first_brace-place.result)) c.loop-draft.invariant.1 lt (c.first_brace-place.ensures.brace lt) _ (marked c.loop-draft.rest.now c.as_bytes-bytes.result.now _ c.first_brace-place.result _ mark.Left c.as_bytes-bytes.ensures.value (to_the_end c.as_bytes-bytes.result.now (c.first_brace-place.result + 1)) c.mark_of.ensures w.in-Left.is) w.in_ok-push-in-Left.ensures,
          )
      | in-Right+in_ok-push-in-Right w ↦
          rw (w.draft-is, w.left-is, c.range_from-rest.ensures.value) (
            IsUtf8-drop c.loop-draft.rest.now (c.first_brace-place.result + 2) c.loop-draft.invariant.0 (right_edge c.loop-draft.rest.now c.first_brace-place.result c.first_brace-place.ensures.bound c.first_brace-place.ensures.plain (map (str own) c.loop-draft.left.now) c.loop-draft.draft c.push.new.self _ (c.in_ok-push.ensures ∙ ap (added c.loop-draft.draft) (c.range.ensures.value ∙ front c.loop-draft.rest.now c.first_brace-place.result)) c.loop-draft.invariant.1 lt (c.first_brace-place.ensures.brace lt) c.loop-draft.invariant.0 (marked c.loop-draft.rest.now c.as_bytes-bytes.result.now _ c.first_brace-place.result _ mark.Right c.as_bytes-bytes.ensures.value (to_the_end c.as_bytes-bytes.result.now (c.first_brace-place.result + 1)) c.mark_of.ensures w.in-Right.is)),
            right_mark c.loop-draft.rest.now c.first_brace-place.result c.first_brace-place.ensures.bound c.first_brace-place.ensures.plain (map (str own) c.loop-draft.left.now) c.loop-draft.draft c.push.new.self _ (c.in_ok-push.ensures ∙ ap (added c.loop-draft.draft) (c.range.ensures.value ∙ front c.loop-draft.rest.now c.first_brace-place.result)) c.loop-draft.invariant.1 lt (c.first_brace-place.ensures.brace lt) _ (marked c.loop-draft.rest.now c.as_bytes-bytes.result.now _ c.first_brace-place.result _ mark.Right c.as_bytes-bytes.ensures.value (to_the_end c.as_bytes-bytes.result.now (c.first_brace-place.result + 1)) c.mark_of.ensures w.in-Right.is) w.in_ok-push-in-Right.ensures,
          )
      | in-Place+in-Some+in_ok-push_value-in-Place w ↦
          rw (w.draft-is, w.left-is, c.range_from-rest.ensures.value) (
            IsUtf8-drop c.loop-draft.rest.now (c.first_brace-place.result + 2) c.loop-draft.invariant.0 (place_edge c.loop-draft.rest.now c.first_brace-place.result c.first_brace-place.ensures.bound c.first_brace-place.ensures.plain (map (str own) c.loop-draft.left.now) c.loop-draft.draft c.push.new.self _ (c.in_ok-push.ensures ∙ ap (added c.loop-draft.draft) (c.range.ensures.value ∙ front c.loop-draft.rest.now c.first_brace-place.result)) c.loop-draft.invariant.1 lt (c.first_brace-place.ensures.brace lt) c.loop-draft.invariant.0 (marked c.loop-draft.rest.now c.as_bytes-bytes.result.now _ c.first_brace-place.result _ mark.Place c.as_bytes-bytes.ensures.value (to_the_end c.as_bytes-bytes.result.now (c.first_brace-place.result + 1)) c.mark_of.ensures w.in-Place.is)),
            place_mark c.loop-draft.rest.now c.first_brace-place.result c.first_brace-place.ensures.bound c.first_brace-place.ensures.plain (map (str own) c.loop-draft.left.now) c.loop-draft.draft c.push.new.self _ (c.in_ok-push.ensures ∙ ap (added c.loop-draft.draft) (c.range.ensures.value ∙ front c.loop-draft.rest.now c.first_brace-place.result)) c.loop-draft.invariant.1 lt (c.first_brace-place.ensures.brace lt) (str own w.in-Some.value.now) (map (str own) w.in-Some.more.now) _ (marked c.loop-draft.rest.now c.as_bytes-bytes.result.now _ c.first_brace-place.result _ mark.Place c.as_bytes-bytes.ensures.value (to_the_end c.as_bytes-bytes.result.now (c.first_brace-place.result + 1)) c.mark_of.ensures w.in-Place.is) (ap (map (str own)) w.in-Some.ensures.cases.0) w.in_ok-push_value-in-Place.ensures,
          )
    ]
