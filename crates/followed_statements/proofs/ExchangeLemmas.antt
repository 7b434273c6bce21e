-- Statements that an edit exchanges, and what they say.
use Rattle.std.proofs.Common.{◌≡◌, ◌≤◌, ◌+◌, ℕ, List, [], ◌∷◌, ◌++◌, drop, length, map, slice_get, Some, refl, ap, subst, ◌∙◌, sym, arith}
use Rattle.std.proofs.lemmas.List.{drop_all, drop_more, map-append}
use Rattle.std.proofs.lemmas.List.Sums.{sum_by-append}
use Rattle.std.proofs.lemmas.Option.{get_or_from_slice_get, slice_get_within}
use Rattle.std.specs.Prelude.{Option}
use Rattle.design_model.specs.declared.identifier.StmtId.{StmtId}
use Rattle.def_grammar.specs.Records.{Record}
use Rattle.following_laws.specs.Following.{Exchange}
use Rattle.line_laws.specs.Lines.{SameThings}
use Rattle.text_pieces.specs.KeptRecords.{record_of, records_under}
use Rattle.text_pieces.specs.Tables.{Kept, kept_at}
use Rattle.design_text.specs.Exchanges.{AreExchanges, Exchanged, IsExchange}
use Rattle.followed_statements.specs.Following.{said}

-- one of some exchanges, and those behind it
pub next_of : (slots : List (Option Kept)) (old last : List (StmtId × Record)) (xs : List Exchanged) (n : ℕ) (x : Exchanged) → Some x ≡ slice_get xs n → AreExchanges slots old (drop n xs) last
    → (between : List (StmtId × Record)) × IsExchange slots old between x × AreExchanges slots between (drop (n + 1) xs) last
next_of slots old last xs n x is made =
    let there = drop_more xs n x (slice_get_within xs n x (sym is)) ∙ ap (λ (y : Exchanged). y ∷ drop (n + 1) xs) (get_or_from_slice_get xs n x x (sym is)) in
    subst (λ (ys : List Exchanged). AreExchanges slots old ys last) there made

-- behind the last of them
pub all_made : (slots : List (Option Kept)) (old last : List (StmtId × Record)) (xs : List Exchanged) (n : ℕ) → length xs ≤ n → AreExchanges slots old (drop n xs) last → last ≡ old
all_made slots old last xs n done made = subst (λ (ys : List Exchanged). AreExchanges slots old ys last) (drop_all n xs done) made

-- what the statements under some numbers say
abbrev pub kept : List (Option Kept) → List StmtId → List Record
kept slots ids = map (λ id. record_of (kept_at slots id)) ids

module _ (slots : List (Option Kept)) where
  said_kept : (ids : List StmtId) → said (records_under slots ids) ≡ kept slots ids
  said_kept [] = refl
  said_kept (i ∷ ids) = ap (λ (l : List Record). record_of (kept_at slots i) ∷ l) (said_kept ids)

  pub said_parted : (front some rest : List StmtId) → said (records_under slots (front ++ (some ++ rest))) ≡ kept slots front ++ (kept slots some ++ kept slots rest)
  said_parted front some rest =
      said_kept (front ++ (some ++ rest))
      ∙ map-append (λ id. record_of (kept_at slots id)) front (some ++ rest)
      ∙ ap (λ (l : List Record). kept slots front ++ l) (map-append (λ id. record_of (kept_at slots id)) some rest)

-- statements within others go before these
in_front : (front some rest : List Record) → SameThings (front ++ (some ++ rest)) (some ++ (front ++ rest))
in_front front some rest = record {
  sums = λ w.
      omega (arith, sum_by-append w front (some ++ rest), sum_by-append w some rest, sum_by-append w some (front ++ rest), sum_by-append w front rest);
}

-- what the statements say is exchanged
pub exchanged : (slots : List (Option Kept)) (old new : List (StmtId × Record)) (x : Exchanged) (e : IsExchange slots old new x)
    → Exchange (said old) (said new) (kept slots x.went) (kept slots x.came) (kept slots e.front ++ kept slots e.rest)
exchanged slots old new x e =
    rw (ap said e.old_is ∙ said_parted slots e.front x.went e.rest, ap said e.new_is ∙ said_parted slots e.front x.came e.rest)
    (record { old_is = in_front (kept slots e.front) (kept slots x.went) (kept slots e.rest); new_is = in_front (kept slots e.front) (kept slots x.came) (kept slots e.rest) })

-- Some exchanges are left: whatever statements all began with, these begin with some that stand to those in a relation that goes on.
module _ (R : List Record → List Record → Type 0) (slots : List (Option Kept)) where
  abbrev pub HoldsSo : List Exchanged → List Exchanged → List (StmtId × Record) → Type 0
  HoldsSo all left last = (old : List (StmtId × Record)) → AreExchanges slots old all last → (between : List (StmtId × Record)) × AreExchanges slots between left last × R (said old) (said between)

  pub none_yet : ((rs : List Record) → R rs rs) → (all : List Exchanged) (last : List (StmtId × Record)) → HoldsSo all all last
  none_yet itself all last old made = (old, made, itself (said old))

  pub one_more : ((a b c : List Record) → R a b → R b c → R a c) → (all : List Exchanged) (last : List (StmtId × Record)) (n : ℕ) (x : Exchanged) → Some x ≡ slice_get all n
      → ((old new : List (StmtId × Record)) → IsExchange slots old new x → R (said old) (said new))
      → HoldsSo all (drop n all) last → HoldsSo all (drop (n + 1) all) last
  one_more chain all last n x is step so old made =
      let before = so old made in
      let next = next_of slots before.0 last all n x is before.1 in
      (next.0, next.2, chain (said old) (said before.0) (said next.0) before.2 (step before.0 next.0 next.1))

  pub in_the_end : (all : List Exchanged) (last : List (StmtId × Record)) (n : ℕ) → length all ≤ n → HoldsSo all (drop n all) last
      → (old : List (StmtId × Record)) → AreExchanges slots old all last → R (said old) (said last)
  in_the_end all last n done so old made =
      let at_last = so old made in
      subst (λ (rs : List (StmtId × Record)). R (said old) (said rs)) (sym (all_made slots at_last.0 last all n done at_last.1)) at_last.2
