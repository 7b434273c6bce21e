use Rattle.std.proofs.Common.{◌≡◌, ◌-◌, ◌∷◌, [], List, ℕ, Some, decimal, length, ap, ap₂, sym, subst, ◌∙◌, rules}
use Rattle.std.specs.Option.{option_map}
use Rattle.design_model.specs.declared.mode.Section.TheVariants.{Components}
use Rattle.statement_model.specs.Cuts.{Cut}
use Rattle.def_grammar.specs.Located.{located}
use Rattle.def_grammar.specs.Records.{read_def}
use Rattle.edit_rules.specs.Plans.{cuts_for}
use Rattle.edit_rules.specs.SectionEdits.{count_change, entries_in, take_change, taking, two_changes}
use Rattle.def_splice.specs.Lying.{lying_tokens}
use Rattle.def_splice.specs.SpliceViews.{AreCuts, change_cut}
use Rattle.def_splice.proofs.PlaceLemmas.{design_of}
use Rattle.def_splice.proofs.SomeTokens.{words_there}
use Rattle.def_splice.proofs.StandingLemmas.{before_taken}
use Rattle.def_splice.proofs.section.entry_taken.Goals as goal

pub counted-requires-clause-behind : goal.counted-requires-clause-behind
counted-requires-clause-behind g c =
    let text = g.L.LookUps.text c.args.lookups.now in
    let read = design_of (read_def text) c.requires.reads in
    let head = sym (c.header.ensures.gives read.0 read.1) ∙ ap (option_map lying_tokens) c.in-Some.is in
    let ps = lying_tokens c.args.entry in
    let many : c.len.result ≡ length ps = c.len.ensures ∙ sym (words_there c.args.entry) in
    rw many (before_taken text read.0 Components (lying_tokens c.in-Some.header) head ps (c.requires.stand read.0 read.1))

pub returns-clause-cuts : goal.returns-clause-cuts
returns-clause-cuts g c = λ design reads.
    let text = g.L.LookUps.text c.args.lookups.now in
    let hs = lying_tokens c.in-Some.header in
    let ps = lying_tokens c.args.entry in
    let head = sym (c.header.ensures.gives design reads) ∙ ap (option_map lying_tokens) c.in-Some.is in
    let fewer = length (entries_in Components design) - 1 in
    let less : c.saturating_sub-count.result ≡ c.entries_in.result - 1 = search rules in
    let number = ap decimal (less ∙ ap (λ (n : ℕ). n - 1) (c.entries_in.ensures.gives design reads)) in
    let many : c.len.result ≡ length ps = c.len.ensures ∙ sym (words_there c.args.entry) in
    let same : change_cut text hs 1 1 (decimal c.saturating_sub-count.result) ∷ change_cut text ps 0 c.len.result [] ∷ [] ≡ cuts_for text (taking Components ps (located text design) design)
    = ap₂ (λ (p : List ℕ) (n : ℕ). change_cut text hs 1 1 p ∷ change_cut text ps 0 n [] ∷ []) number many
    ∙ ap (λ o. cuts_for text (two_changes o (count_change Components fewer) (Some ps) (take_change ps))) (sym head) in
    subst (λ (cuts : List Cut). AreCuts {A = g.row.A.Denot} text cuts c.counted.result) same c.counted.ensures.cuts
