use Rattle.def_reader.proofs.KeySteps.{word_again, word_new, word_noted, name_again, name_new, name_noted}
use Rattle.def_reader.proofs.seen.Seen.note.Goals as goal

pub returns-then-branch : goal.returns-then-branch
returns-then-branch g c = λ latest keys same belongs.
    let old = c.args.self.now in
    let e = c.in_ok-insert-in-Statement.ensures in
    let word = c.in-Statement.word in
    let added = c.in_ok-insert-in-Statement.field-0 in
    rw c.in-Statement.is (
      word_new old.words.keys old.names.keys latest keys same word added e.added c.if-branch.true,
      λ new. word_noted old.words.keys old.names.keys latest keys same word added e.added c.insert.new.self.keys c.clear.new.self.keys c.if-branch.true e.keys c.clear.ensures.empty,
    )

pub returns-else-branch : goal.returns-else-branch
returns-else-branch g c = λ latest keys same belongs.
    let old = c.args.self.now in
    let e = c.in_ok-insert-in-Statement.ensures in
    rw c.in-Statement.is (
      word_again old.words.keys old.names.keys latest keys same c.in-Statement.word c.in_ok-insert-in-Statement.field-0 e.added c.if-branch.false,
      λ new. absurd (cc),
    )

pub returns-then-branch-2 : goal.returns-then-branch-2
returns-then-branch-2 g c = λ latest keys same belongs.
    let old = c.args.self.now in
    let e = c.in_ok-insert-in-Entry.ensures in
    let name = c.in-Entry.name in
    let added = c.in_ok-insert-in-Entry.field-0 in
    let here = rw c.in-Entry.is at belongs in
    rw c.in-Entry.is (
      name_new old.words.keys old.names.keys latest keys same name added e.added _ here c.if-branch-2.true,
      λ new. name_noted old.words.keys old.names.keys latest keys same name added e.added _ here c.insert-in-Entry.new.self.keys c.if-branch-2.true e.keys,
    )

pub returns-else-branch-2 : goal.returns-else-branch-2
returns-else-branch-2 g c = λ latest keys same belongs.
    let old = c.args.self.now in
    let e = c.in_ok-insert-in-Entry.ensures in
    let here = rw c.in-Entry.is at belongs in
    rw c.in-Entry.is (
      name_again old.words.keys old.names.keys latest keys same c.in-Entry.name c.in_ok-insert-in-Entry.field-0 e.added _ here c.if-branch-2.false,
      λ new. absurd (cc),
    )
