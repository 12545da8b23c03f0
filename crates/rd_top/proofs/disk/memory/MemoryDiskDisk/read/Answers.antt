use Rattle.std.proofs.Common.{◌≡◌, ap, sym, subst, refl, ◌∙◌, None, Some, IfOk}
use Rattle.std.specs.Option.{option_copied}
use Rattle.std.specs.FinMap.{get}
use Rattle.rd_top.specs.Disk.{found}
use Rattle.rd_top.proofs.Paths.{get_path, finds_of}
use Rattle.rd_top.proofs.disk.memory.MemoryDiskDisk.read.Goals.{in-None, in-Some}
use Rattle.rd_top.proofs.disk.memory.MemoryDiskDisk.read.Goals as goal

pub returns-clause-found : goal.returns-clause-found
returns-clause-found c =
    let here : get c.args.self.now.files c.args.path.now ≡ option_copied c.get.result =
    ap (λ k. get k.files c.args.path.now) (sym c.self.view_is) ∙ get_path c.self.inside.contents.entries c.args.path.now ∙ sym c.get.ensures.value in
    elim c.match-get.branch [
      | in-None w ↦ finds_of c.args.self.now.files c.args.path.now None c.match-get.result (here ∙ ap option_copied w.in-None.is)
          (subst (λ r. IfOk r (λ f. f ≡ found None)) (sym w.result-is) refl)
      | in-Some w ↦ finds_of c.args.self.now.files c.args.path.now (Some w.in-Some.bytes.now) c.match-get.result (here ∙ ap option_copied w.in-Some.is)
          (subst (λ r. IfOk r (λ f. f ≡ found (Some w.in-Some.bytes.now))) (sym w.result-is) w.found.ensures.value)
    ]
