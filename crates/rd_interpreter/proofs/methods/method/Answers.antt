use Rattle.rd_interpreter.proofs.MethodDicts.{on_dict_of}
use Rattle.rd_interpreter.proofs.methods.method.Goals as goal

pub returns-in-Some-clause-gives : goal.returns-in-Some-clause-gives
returns-in-Some-clause-gives c = on_dict_of _ _ _ c.args.receiver.now c.args.name.now c.args.arguments.now c.in-Some.method c.dict_method.result c.dict_method.ensures c.in-Some.is c.in-DictOf.pairs c.as_slice.result.now c.in-DictOf.is c.as_slice.ensures c.of_dict.ensures.gives
