use Rattle.std.proofs.Common.{◌∙◌, sym}
use Rattle.design_text.proofs.ReadPieces.{has_no_fault, is_some, pieces_are, says_it, spelled}
use Rattle.design_text.proofs.statements.read_piece.Goals as goal

pub unreachable-requires : goal.unreachable-requires
unreachable-requires c =
    let p = c.requires in
    has_no_fault c.pieces_are_found.ensures c.args.mode p.1 c.args.bytes.now p.0 p.2 _ (rw c.in_default.is at c.read_statement.ensures.reads)

pub unreachable-requires-in_default-found : goal.unreachable-requires-in_default-found
unreachable-requires-in_default-found c =
    let p = c.requires in
    is_some c.pieces_are_found.ensures c.args.mode p.1 c.args.bytes.now p.0 p.2 (rw c.in_default-found.is at c.in-Ok.ensures.reads)

pub returns-clause-says : goal.returns-clause-says
returns-clause-says c = λ rec after piece.
    let reads = rw c.in-Some.is at c.in-Ok.ensures.reads in
    says_it c.pieces_are_found.ensures c.args.mode after c.args.bytes.now rec piece c.in-Some.read reads.2

pub returns-clause-tokens : goal.returns-clause-tokens
returns-clause-tokens c =
    let p = c.requires in
    let cuts = rw c.in-Some.is at c.in-Ok.ensures.cuts in
    pieces_are c.pieces_are_found.ensures c.args.mode p.1 c.args.bytes.now p.0 p.2 c.in-Some.read cuts

pub returns-clause-spelled : goal.returns-clause-spelled
returns-clause-spelled c = λ x is.
    let p = c.requires in
    let cuts = rw c.in-Some.is at c.in-Ok.ensures.cuts in
    let reads = rw c.in-Some.is at c.in-Ok.ensures.reads in
    let says = says_it c.pieces_are_found.ensures c.args.mode p.1 c.args.bytes.now p.0 p.2 c.in-Some.read reads.2 in
    spelled c.pieces_are_found.ensures c.args.mode p.1 c.args.bytes.now p.0 p.2 c.in-Some.read cuts x (sym says ∙ is)
