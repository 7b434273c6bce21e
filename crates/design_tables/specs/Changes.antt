-- Changes of tables: statements that go out of a text, and others that are put in.
use Rattle.std.specs.Prelude.{◌≡◌, ℕ, ◌-◌, ◌==◌, Bool, true, false, not, List, [], count_by, filter, Option, Some, None}
use Rattle.std.specs.List.{list_any}
use Rattle.design_model.specs.declared.identifier.StmtId.{StmtId}
use Rattle.def_grammar.specs.Records.{Record}
use Rattle.design_tables.specs.Listings.{Listing, has_name, is_member, listed, marks_named, with_marks}
use Rattle.design_tables.specs.Lookups.{is_number}
use Rattle.design_tables.specs.declared.role.Mark.{Mark}

-- a number is one of these
abbrev pub is_gone : List ℕ → StmtId → Bool
is_gone keys id = list_any (λ k. id.0 == k) keys

abbrev pub has_number : List (StmtId × Record) → StmtId → Bool
has_number xs id = list_any (λ (x : StmtId × Record). is_number id x.0) xs

-- what is listed, without the marks of some numbers; with fewer entries
abbrev pub without : (StmtId → Bool) → Listing → Listing
without gone l = record { marks = filter (λ (m : Mark). not (gone m.id)) l.marks; entries = l.entries }

abbrev pub less : ℕ → Listing → Listing
less n l = record { marks = l.marks; entries = l.entries - n }

abbrev pub or_else_listed : Option Listing → Listing → Listing
or_else_listed None other = other
or_else_listed (Some l) other = l

-- a table has what stands under each name that some marks have that go out, or others that are put in
abbrev pub edited : (StmtId → Bool) → List Mark → List Mark → Listing → Listing
edited gone outs puts l = with_marks puts (less (count_by is_member outs) (without gone l))

pub record IsEdited (gone : StmtId → Bool) (names : List (List ℕ × Listing)) (outs puts : List (List ℕ × Mark)) (new : List (List ℕ × Listing)) : Type 0 where
  pub apart : (n : List ℕ) → has_name n new ≡ false → (marks_named n outs ≡ []) × (marks_named n puts ≡ [])
  pub changed : (n : List ℕ) → has_name n new ≡ true → listed n new ≡ edited gone (marks_named n outs) (marks_named n puts) (listed n names)
