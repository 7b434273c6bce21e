use Rattle.std.proofs.Common.{List, ◌++◌, flat_map, ap, ◌∙◌, ℕ}
use Rattle.count_laws.specs.Counts.{all_sections, section_lines}
use Rattle.design_rules.specs.CountLines.{count_lines}
use Rattle.design_text.specs.DesignTexts.{design_of, text_of}
use Rattle.followed_statements.proofs.CountLemmas.{turned}
use Rattle.followed_statements.proofs.counts.lines_on_headers.Goals as goal

pub returns : goal.returns
returns g c =
    let design = design_of c.args.text.now in
    let by_section = flat_map (section_lines design) all_sections in
    turned (count_lines design) by_section c.put_sections.new.lines (c.in_ok-put_sections.ensures ∙ ap (λ (l : List (List ℕ)). l ++ by_section) c.new-lines.ensures)
    (c.counts_are_by_section.ensures (text_of c.args.text.now) design c.design_is_read.ensures.reads)
