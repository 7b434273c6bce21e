-- What a head of a net is read as, and what it is in a design.
use Rattle.std.proofs.Common.{◌≡◌, ◌∙◌, ◌<◌, ◌+◌, ℕ, zero, suc, Bool, true, false, List, [], ◌∷◌, ◌++◌, filter, flat_map, map, drop, get_or, length, Option, Some, None, Result, Ok, Err, refl, sym, ap, subst}
use Rattle.std.specs.Prelude.{IfSome}
use Rattle.std.specs.List.{AllByRecursion}
use Rattle.std.specs.Str.{bytes_eq}
use Rattle.std.proofs.lemmas.List.{drop_more}
use Rattle.std.proofs.lemmas.Slice.Eq.{bytes_eq-Decides}
use Rattle.design_model.specs.declared.fault.Fault.{Fault}
use Rattle.design_model.specs.declared.mode.Mode.{Mode}
use Rattle.statement_model.specs.Tokens.{Lexed}
use Rattle.def_grammar.specs.Nets.{is_net, must_join}
use Rattle.def_grammar.specs.Records as records
use Rattle.def_grammar.specs.Records.{Record, end_section, entry, in_properties, top}
use Rattle.def_grammar.specs.Terminals.{Terminal}
use Rattle.net_laws.specs.NetsTold.{is_of_net, net_of_record, terminals_in, terminals_of}
use Rattle.followed_nets.specs.Heads.{Head, HeadLists, IsHead, IsHeadOf, ReadsAs}
use Rattle.followed_nets.proofs.TellLemmas.{first_passes, is_entry_of}

-- a head is read as one record
abbrev said_by : Record → Result (Option (Record × Mode × Lexed)) Fault → Record
said_by other (Ok (Some x)) = x.0
said_by other (Ok None) = other
said_by other (Err f) = other

same_entry : (h : Head) (r s : Record) → ReadsAs h r → ReadsAs h s → r ≡ s
same_entry h r s one two = ap (said_by r) (sym one.reads ∙ two.reads)

pub head_says : (design : List Record) (h : Head) (r : Record) → IsHead design h → ReadsAs h r → (is_of_net h.name r ≡ true) × (terminals_of r ≡ terminals_in design h.name)
head_says design h r head reads =
    let same : r ≡ head.entry = same_entry h r head.entry reads head.reads in
    (ap (is_of_net h.name) same ∙ head.of_net, ap terminals_of same ∙ head.lists)

-- an entry of a net is of the net of its name
named_alike : (n name : List ℕ) → Some n ≡ Some name → bytes_eq n name ≡ true
named_alike n name is = let same : n ≡ name = cc in (bytes_eq-Decides n name).1 same

pub of_its_net : (name : List ℕ) (r : Record) → net_of_record r ≡ Some name → is_of_net name r ≡ true
of_its_net name (top t) h = absurd (cc)
of_its_net name (in_properties p) h = absurd (cc)
of_its_net name (end_section s) h = absurd (cc)
of_its_net name (entry (records.component x)) h = absurd (cc)
of_its_net name (entry (records.pin x)) h = absurd (cc)
of_its_net name (entry (records.region x)) h = absurd (cc)
of_its_net name (entry (records.group x)) h = absurd (cc)
of_its_net name (entry (records.blockage x)) h = absurd (cc)
of_its_net name (entry (records.net (must_join x))) h = absurd (cc)
of_its_net name (entry (records.net (is_net n))) h = named_alike n.name name h
of_its_net name (entry (records.special_net n)) h = named_alike n.name name h
of_its_net name (entry (records.via x)) h = absurd (cc)
of_its_net name (entry (records.rule x)) h = absurd (cc)
of_its_net name (entry (records.skipped s x)) h = absurd (cc)

-- the head of a net's entries
one_name : (n m : List ℕ) → Some n ≡ Some m → n ≡ m
one_name n m is = cc

pub of_entries : (design : List Record) (net : List ℕ) (r : Record) (rs : List Record) (h : Head) → filter (is_of_net net) design ≡ r ∷ rs → IsHeadOf r (r ∷ rs) h → IsHead design h
of_entries design net r rs h entries is =
    let own = is_entry_of net r (first_passes (is_of_net net) design r rs entries) in
    let named : h.name ≡ net = one_name h.name net (sym is.net_is ∙ own.net_is) in
    let all : terminals_in design h.name ≡ flat_map terminals_of (r ∷ rs) = ap (terminals_in design) named ∙ ap (flat_map terminals_of) entries in
    record { entry = is.head_lists.entry; reads = is.head_lists.reads; of_net = is.head_lists.of_net; lists = is.head_lists.lists ∙ sym all }

-- of a head that may have been made
pub if_some_so : {A : Type 0} (P Q : A → Type 0) (o : Option A) → ((a : A) → P a → Q a) → IfSome o P → IfSome o Q
if_some_so P Q None f h = tt
if_some_so P Q (Some a) f h = f a h

-- one of some, at a place
module _ {A B : Type 0} (view : A → B) (P : B → Type 0) where
  all_from : (xs : List A) (i : ℕ) → AllByRecursion P (map view xs) → AllByRecursion P (map view (drop i xs))
  all_from xs zero all = all
  all_from [] (suc i) all = tt
  all_from (x ∷ xs) (suc i) all = all_from xs i all.1

  pub one_at : (xs : List A) (i : ℕ) (x : A) → i < length xs → x ≡ get_or xs i x → AllByRecursion P (map view xs) → P (view x)
  one_at xs i x below is all =
      let here : drop i xs ≡ x ∷ drop (i + 1) xs = drop_more xs i x below ∙ ap (λ (y : A). y ∷ drop (i + 1) xs) (sym is) in
      (subst (λ (l : List A). AllByRecursion P (map view l)) here (all_from xs i all)).0

-- one more behind some
pub one_more : {A B : Type 0} (view : A → B) (P : B → Type 0) (xs : List A) (x : A) (all : List A) → all ≡ xs ++ x ∷ [] → AllByRecursion P (map view xs) → P (view x) → AllByRecursion P (map view all)
one_more {A = A} view P xs x all is are own = subst (λ (l : List A). AllByRecursion P (map view l)) (sym is) (behind xs are)
  where
    behind : (ys : List A) → AllByRecursion P (map view ys) → AllByRecursion P (map view (ys ++ x ∷ []))
    behind [] h = (own, tt)
    behind (y ∷ ys) h = (h.0, behind ys h.1)
