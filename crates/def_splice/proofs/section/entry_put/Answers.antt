use Rattle.std.proofs.Common.{◌≡◌, ◌+◌, ◌∷◌, [], List, ℕ, suc, Some, decimal, length, ap, sym, subst, ◌∙◌, arith}
use Rattle.std.specs.Option.{option_map}
use Rattle.statement_model.specs.Cuts.{Cut}
use Rattle.def_grammar.specs.Located.{located}
use Rattle.def_grammar.specs.Records.{read_def}
use Rattle.edit_rules.specs.Plans.{cut_of, cuts_for}
use Rattle.edit_rules.specs.SectionEdits.{count_change, entries_in, is_end, is_header, put_change, putting, tokens_where, two_changes}
use Rattle.def_splice.specs.Lying.{lying_tokens}
use Rattle.def_splice.specs.SpliceViews.{AreCuts, change_cut}
use Rattle.def_splice.proofs.PlaceLemmas.{design_of}
use Rattle.def_splice.proofs.SomeTokens.{found_has_some}
use Rattle.def_splice.proofs.StandingLemmas.{before_end}
use Rattle.def_splice.proofs.section.entry_put.Goals as goal

pub counted-requires-clause-some : goal.counted-requires-clause-some
counted-requires-clause-some g c =
    let text = g.L.LookUps.text c.args.lookups.now in
    let read = design_of (read_def text) c.requires.reads in
    let end = sym (c.end.ensures.gives read.0 read.1) ∙ ap (option_map lying_tokens) c.in-Some-end.is in
    found_has_some text read.0 (is_end c.args.section) c.in-Some-end.end end

pub counted-requires-clause-behind : goal.counted-requires-clause-behind
counted-requires-clause-behind g c =
    let text = g.L.LookUps.text c.args.lookups.now in
    let read = design_of (read_def text) c.requires.reads in
    let head = sym (c.header.ensures.gives read.0 read.1) ∙ ap (option_map lying_tokens) c.in-Some.is in
    let end = sym (c.end.ensures.gives read.0 read.1) ∙ ap (option_map lying_tokens) c.in-Some-end.is in
    before_end text read.0 c.args.section (lying_tokens c.in-Some.header) head c.args.put.now (lying_tokens c.in-Some-end.end) end (c.requires.stand read.0 read.1)

pub returns-clause-cuts : goal.returns-clause-cuts
returns-clause-cuts g c = λ design said reads.
    let text = g.L.LookUps.text c.args.lookups.now in
    let s = c.args.section in
    let all = located text design in
    let hs = lying_tokens c.in-Some.header in
    let es = lying_tokens c.in-Some-end.end in
    let head = sym (c.header.ensures.gives design reads) ∙ ap (option_map lying_tokens) c.in-Some.is in
    let end = sym (c.end.ensures.gives design reads) ∙ ap (option_map lying_tokens) c.in-Some-end.is in
    let count = count_change s (suc (length (entries_in s design))) in
    let more = put_change s c.args.put.now said in
    let number : decimal (c.entries_in.result + 1) ≡ decimal (suc (length (entries_in s design))) = ap (λ (n : ℕ). decimal (n + 1)) (c.entries_in.ensures.gives design reads) ∙ ap decimal {x = length (entries_in s design) + 1} {y = suc (length (entries_in s design))} (omega arith) in
    let same : change_cut text hs 1 1 (decimal (c.entries_in.result + 1)) ∷ change_cut text es 0 0 c.args.put.now ∷ [] ≡ cuts_for text (putting s c.args.put.now said all design)
    = ap (λ (p : List ℕ). change_cut text hs 1 1 p ∷ cut_of text es more ∷ []) number
    ∙ ap (λ o. cuts_for text (two_changes o count (Some es) more)) (sym head)
    ∙ ap (λ o. cuts_for text (two_changes (tokens_where (is_header s) all) count o more)) (sym end) in
    subst (λ (cuts : List Cut). AreCuts {A = g.row.A.Denot} text cuts c.counted.result) same c.counted.ensures.cuts
