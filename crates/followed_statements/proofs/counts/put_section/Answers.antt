use Rattle.followed_statements.proofs.counts.put_section.Goals as goal

pub returns : goal.returns
returns g c = rw (c.header_number-number.ensures, c.section_entries-found.ensures.count) at (c.put_header.ensures)
