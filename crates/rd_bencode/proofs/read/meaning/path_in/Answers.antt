use Rattle.std.proofs.Common.{◌≡◌, true, false, Err, ap, refl, ◌∙◌}
use Rattle.rd_base.specs.Path.{is_path}
use Rattle.rd_bencode.proofs.Meaning.{is_path_text, refused_path, told_path}
use Rattle.rd_bencode.proofs.read.meaning.path_in.Goals as goal

pub returns-in-Ok : goal.returns-in-Ok
returns-in-Ok c =
    let lawful : is_path c.args.text.now ≡ true = told_path _ c.in-Ok.path _ c.new.result c.in-Ok.is c.new.ensures.refused in
    rw (is_path_text c.args.text.now c.utf8.text lawful, c.in-Ok.ensures.ok) refl

pub returns-in-Err-PathRefused : goal.returns-in-Err-PathRefused
returns-in-Err-PathRefused c =
    let refused : is_path c.args.text.now ≡ false = c.new.ensures.lawful (c.in-Err-PathRefused.is ∙ ap Err c.in-Err-PathRefused.field-0-is) in
    rw (refused_path c.args.text.now refused) refl
