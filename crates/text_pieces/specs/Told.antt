-- What is told of statements.
use Rattle.std.specs.Prelude.{List, ◌++◌}
use Rattle.design_model.specs.declared.identifier.StmtId.{StmtId}
use Rattle.def_grammar.specs.Records.{Record}

-- what was told says these statements more than it did
abbrev pub Tells : {T : Type 0} → (T → List (StmtId × Record) → Type 0) → T → T → List (StmtId × Record) → Type 0
Tells says old new more = (xs : List (StmtId × Record)) → says old xs → says new (xs ++ more)
