use Rattle.std.proofs.Common.{refl}
use Rattle.rd_value.specs.declared.expr.Lazy.TheVariants as lazy
use Rattle.rd_interpreter.proofs.MethodDicts.{on_dict_value}
use Rattle.rd_interpreter.proofs.methods.of_value.Goals as goal

pub returns-in-Some-clause-gives : goal.returns-in-Some-clause-gives
returns-in-Some-clause-gives c = on_dict_value _ _ _ (lazy.Val c.args.value.now) c.args.name.now c.args.arguments.now c.in-Some.method c.dict_method.result c.dict_method.ensures c.in-Some.is c.args.value.now c.in-Dict.pairs c.as_slice.result.now refl c.in-Dict.is c.as_slice.ensures c.of_dict.ensures.gives
