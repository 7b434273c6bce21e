-- What reading one statement of a LEF text says.
use Rattle.std.specs.Prelude.{◌≡◌, ◌≤◌, ◌<◌, ℕ, List, length, Option, Some, None, Result, Ok, Err, MatchResult, MatchOption}
use Rattle.design_model.specs.declared.fault.Fault.{Fault}
use Rattle.statement_model.specs.Tokens.{left_from}
use Rattle.lef_grammar.specs.LefRecords.{read_lef_at}
use Rattle.statement_reader.specs.declared.grammar.Read.{Read}
use Rattle.lef_reader.specs.StatementViews.{block_view, lef_view}
use Rattle.lef_reader.specs.declared.block.Block.{Block}
use Rattle.lef_reader.specs.declared.statement.LefStatement.{LefStatement}

-- in a block, from a position on, the first statement says this and ends there, or there is none, or it has a fault
abbrev pub ReadsLef : Block → List ℕ → ℕ → Result (Option (Read LefStatement Block)) Fault → Type 0
ReadsLef block text pos r =
    MatchResult r
    (λ found. MatchOption found (read_lef_at (block_view block) (left_from text pos) ≡ Ok None)
    (λ x. (pos < x.end) × (x.end ≤ length text) × (read_lef_at (block_view block) (left_from text pos) ≡ Ok (Some (lef_view x.statement, block_view x.place, left_from text x.end)))))
    (λ f. read_lef_at (block_view block) (left_from text pos) ≡ Err f)
