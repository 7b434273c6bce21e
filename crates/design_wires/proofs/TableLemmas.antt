-- Tables of vias by their names.
use Rattle.std.proofs.Common.{◌≡◌, ℕ, zero, suc, ◌+◌, Bool, true, false, ◌||◌, List, [], ◌∷◌, ◌++◌, map, refl, sym, ap, ◌∙◌, Bor, Option, Some, None, is_some, option_copied, slice_get, drop, IfSome, MatchOption, if◌then◌else◌, arith}
use Rattle.std.specs.List.{cons_option, filter_map, list_any}
use Rattle.std.specs.Option.{option_map, option_or}
use Rattle.std.specs.Str.{bytes_eq}
use Rattle.std.proofs.lemmas.Option.{slice_get-map}
use Rattle.std.proofs.lemmas.Slice.Eq.{bytes_eq-Decides}
use Rattle.form_meanings.specs.Words.{◌>>=◌}
use Rattle.def_grammar.specs.DefVias.{DefVia}
use Rattle.def_grammar.specs.Records.{Record, Entry, entry_of}
use Rattle.form_meanings.specs.Firsts.{find_named, has_name, with_first}
use Rattle.lef_grammar.specs.Library.{Library, Via, via_named}
use Rattle.lef_grammar.specs.Definitions as lef
use Rattle.entry_rules.specs.ViaLayers.{body_layers, def_via_layers, def_via_named, def_vias, layers_named, or_lef, via_of_entry}
use Rattle.cell_library.specs.Naming.{name_of, named}
use Rattle.cell_library.specs.ViaViews.{via_view, vias_view}
use Rattle.cell_library.specs.declared.via_definition.Via as code
use Rattle.wire_shapes.proofs.Cuts.{drop_there}
use Rattle.net_rules.specs.ViaRectangles.{body_shapes, def_via_shapes, or_else, via_shapes}
use Rattle.design_wires.specs.Defined.{Defined}
use Rattle.design_wires.specs.KnownVias.{HasOthers, HasVias, IsVia, is_among, names_in_def, names_in_lef}
use Rattle.design_wires.specs.declared.known_via.KnownVia.{KnownVia}

-- a via that isn't known has no shapes
none_of_both : {V W L S : Type 0} (f : V → L) (g : W → L) (h : V → List S) (k : W → List S) (v : Option V) (w : Option W) → or_lef (option_map f v) (option_map g w) ≡ None → or_else [] (or_lef (option_map h v) (option_map k w)) ≡ []
none_of_both f g h k None None e = refl
none_of_both f g h k None (Some w) e = cc
none_of_both f g h k (Some v) w e = cc

pub no_shapes : (library : Library) (design : List Record) (u : ℕ) (name : List ℕ) → layers_named library design name ≡ None → via_shapes library design u name ≡ []
no_shapes library design u name e = none_of_both def_via_layers (λ (v : lef.Via). body_layers v.body) def_via_shapes (λ (v : lef.Via). body_shapes u v.body) (def_via_named design name) (via_named library name) e

-- what is found by its name is among the names
found_among : {A : Type 0} (name_in : A → List ℕ) (all : List A) (name : List ℕ) → is_some (find_named name_in all name) ≡ is_among name (map name_in all)
found_among name_in [] name = refl
found_among name_in (a ∷ all) name = found_step (bytes_eq (name_in a) name) (found_among name_in all name)
  where
    found_step : (b : Bool) → is_some (find_named name_in all name) ≡ is_among name (map name_in all)
        → is_some (if b then Some a else find_named name_in all name) ≡ (b || is_among name (map name_in all))
    found_step true h = refl
    found_step false h = h

among_both : (name : List ℕ) (xs ys : List (List ℕ)) → is_among name (xs ++ ys) ≡ (is_among name xs || is_among name ys)
among_both name [] ys = refl
among_both name (x ∷ xs) ys = both_step (bytes_eq x name) (among_both name xs ys)
  where
    both_step : (b : Bool) → is_among name (xs ++ ys) ≡ (is_among name xs || is_among name ys) → (b || is_among name (xs ++ ys)) ≡ ((b || is_among name xs) || is_among name ys)
    both_step true h = refl
    both_step false h = h

some_of_both : {V W L : Type 0} (f : V → L) (g : W → L) (v : Option V) (w : Option W) → is_some (or_lef (option_map f v) (option_map g w)) ≡ (is_some v || is_some w)
some_of_both f g (Some v) w = refl
some_of_both f g None (Some w) = refl
some_of_both f g None None = refl

module _ (library : Library) (design : List Record) where
  known_among : (name : List ℕ) → is_some (layers_named library design name) ≡ is_among name (names_in_def design ++ names_in_lef library.vias)
  known_among name =
      some_of_both def_via_layers (λ (v : lef.Via). body_layers v.body) (def_via_named design name) (via_named library name)
      ∙ ap (λ (b : Bool). b || is_some (via_named library name)) (found_among (λ (v : DefVia). v.name) (def_vias design) name)
      ∙ ap (λ (b : Bool). is_among name (names_in_def design) || b) (found_among (λ (v : Via). v.name) library.vias name)
      ∙ sym (among_both name (names_in_def design) (names_in_lef library.vias))

same_bytes : (a b : List ℕ) → bytes_eq a b ≡ true → a ≡ b
same_bytes a b t = grind (arith, bytes_eq-Decides)

-- tables
any_named : {D : Type 0} (es : List (List ℕ × D)) (name : List ℕ) → list_any (has_name name_of name) es ≡ is_some (named es name)
any_named [] name = refl
any_named {D} (e ∷ es) name = any_step (bytes_eq e.0 name) (find_named name_of es name) (any_named es name)
  where
    any_step : (b : Bool) (q : Option (List ℕ × D)) → list_any (has_name name_of name) es ≡ is_some (option_map (λ (x : List ℕ × D). x.1) q)
        → (b || list_any (has_name name_of name) es) ≡ is_some (option_map (λ (x : List ℕ × D). x.1) (if b then Some e else q))
    any_step true q h = refl
    any_step false q h = h

-- one that comes last is found where nothing before it is
named_last : {D : Type 0} (es : List (List ℕ × D)) (last : List ℕ × D) (name : List ℕ) → named (es ++ last ∷ []) name ≡ option_or (named es name) (named (last ∷ []) name)
named_last [] last name = refl
named_last {D} (e ∷ es) last name = last_step (bytes_eq e.0 name) (find_named name_of (es ++ last ∷ []) name) (find_named name_of es name) (named_last es last name)
  where
    last_step : (b : Bool) (r q : Option (List ℕ × D)) → option_map (λ (x : List ℕ × D). x.1) r ≡ option_or (option_map (λ (x : List ℕ × D). x.1) q) (named (last ∷ []) name)
        → option_map (λ (x : List ℕ × D). x.1) (if b then Some e else r) ≡ option_or (option_map (λ (x : List ℕ × D). x.1) (if b then Some e else q)) (named (last ∷ []) name)
    last_step true r q h = refl
    last_step false r q h = h

named_new : {D : Type 0} (es new : List (List ℕ × D)) (last : List ℕ × D) → is_some (named es last.0) ≡ false → new ≡ with_first name_of es last
    → (name : List ℕ) → named new name ≡ option_or (named es name) (named (last ∷ []) name)
named_new {D} es new last absent is name =
    ap (λ (z : List (List ℕ × D)). named z name) (is ∙ ap (λ (b : Bool). if b then es else es ++ last ∷ []) (any_named es last.0 ∙ absent)) ∙ named_last es last name

module _ (d : Defined) {A : Type 0} where
  module _ (vias : List (List ℕ × KnownVia A)) (name : List ℕ) (left : List (List ℕ)) (h : HasOthers d vias (name ∷ left)) where
    -- its name is there already
    there_step : (n : List ℕ) (b : Bool) → is_some (named vias name) ≡ true → bytes_eq name n ≡ b → (is_some (named vias n) || (b || is_among n left)) ≡ true → (is_some (named vias n) || is_among n left) ≡ true
    there_step n false there e k = k
    there_step n true there e k = rw (← same_bytes name n e, there) refl

    pub has_already : is_some (named vias name) ≡ true → HasOthers d vias left
    has_already there = record { each = h.each; all = λ n known. there_step n (bytes_eq name n) there refl (h.all n known) }

    -- no via has this name
    none_step : (n : List ℕ) (b : Bool) → layers_named d.library d.design name ≡ None → is_some (layers_named d.library d.design n) ≡ true → bytes_eq name n ≡ b → (is_some (named vias n) || (b || is_among n left)) ≡ true → (is_some (named vias n) || is_among n left) ≡ true
    none_step n false none known e k = k
    none_step n true none known e k =
        let absurd : is_some (layers_named d.library d.design n) ≡ false = ap (λ (m : List ℕ). is_some (layers_named d.library d.design m)) (sym (same_bytes name n e)) ∙ ap (λ (o : Option (List (List ℕ))). is_some o) none in
        cc

    pub has_none : layers_named d.library d.design name ≡ None → HasOthers d vias left
    has_none none = record { each = h.each; all = λ n known. none_step n (bytes_eq name n) none known refl (h.all n known) }

    -- its via is new
    module _ (via : KnownVia A) (new : List (List ℕ × KnownVia A)) (absent : is_some (named vias name) ≡ false) (is : IsVia d name via) (put : new ≡ with_first name_of vias (name, via)) where
      each_step : (n : List ℕ) (o : Option (KnownVia A)) (b : Bool) → bytes_eq name n ≡ b → IfSome o (IsVia d n)
          → IfSome (option_or o (option_map (λ (x : List ℕ × KnownVia A). x.1) (if b then Some (name, via) else None))) (IsVia d n)
      each_step n (Some v) b e right = right
      each_step n None true e right = rw (← same_bytes name n e) is
      each_step n None false e right = right

      all_step : (n : List ℕ) (o : Option (KnownVia A)) (b : Bool) → (is_some o || (b || is_among n left)) ≡ true
          → (is_some (option_or o (option_map (λ (x : List ℕ × KnownVia A). x.1) (if b then Some (name, via) else None))) || is_among n left) ≡ true
      all_step n (Some v) b k = refl
      all_step n None true k = refl
      all_step n None false k = k

      pub has_new : HasOthers d new left
      has_new = record {
        each = λ n. rw (named_new vias new (name, via) absent put n) (each_step n (named vias n) (bytes_eq name n) refl (h.each n));
        all = λ n known. rw (named_new vias new (name, via) absent put n) (all_step n (named vias n) (bytes_eq name n) (h.all n known));
      }

  -- before the first
  pub has_nothing : (vias : List (List ℕ × KnownVia A)) → vias ≡ [] → HasOthers d vias (names_in_def d.design ++ names_in_lef d.library.vias)
  has_nothing vias is = record {
    each = λ name. rw (is) tt;
    all = λ name known. rw (is) (sym (known_among d.library d.design name) ∙ known);
  }

  -- after the last
  pub has_vias : (vias : List (List ℕ × KnownVia A)) → HasOthers d vias [] → HasVias d vias
  has_vias vias h = record { each = λ name. of_name name (named vias name) (layers_named d.library d.design name) refl (h.each name) (h.all name) }
    where
      of_name : (name : List ℕ) (o : Option (KnownVia A)) (l : Option (List (List ℕ))) → layers_named d.library d.design name ≡ l → IfSome o (IsVia d name)
          → (is_some (layers_named d.library d.design name) ≡ true → (is_some o || false) ≡ true) → MatchOption o (layers_named d.library d.design name ≡ None) (IsVia d name)
      of_name name (Some v) l e right all = right
      of_name name None None e right all = e
      of_name name None (Some ls) e right all = let some : is_some (layers_named d.library d.design name) ≡ true = ap (λ (o : Option (List (List ℕ))). is_some o) e in let absurd : false ≡ true = all some in cc

pub absent_where : {D : Type 0} (found : Option (Bor D)) (o : Option D) → option_copied found ≡ o → is_some found ≡ false → is_some o ≡ false
absent_where None o is none = rw (← is) refl
absent_where (Some d) o is none = cc

-- one is known, of those that are found or not
pub matched : {X : Type 0} (N : Type 0) (S : X → Type 0) (o : Option X) (x : X) → o ≡ Some x → MatchOption o N S → S x
matched N S o x is m = rw is at m

none_there : {X : Type 0} (xs : List X) (i : ℕ) → slice_get xs i ≡ None → drop i xs ≡ []
none_there [] zero is = refl
none_there [] (suc i) is = refl
none_there (x ∷ xs) zero is = cc
none_there (x ∷ xs) (suc i) is = none_there xs i is

-- names of vias of a library, from a place on
module _ {A : Type 0} (all : List (List ℕ × code.Via A)) (place : ℕ) where
  pub names_from : (e : List ℕ × code.Via A) → Some e ≡ slice_get all place → names_in_lef (drop place (vias_view all)) ≡ e.0 ∷ names_in_lef (drop (place + 1) (vias_view all))
  names_from e is = ap names_in_lef (drop_there (vias_view all) place (via_view e) (slice_get-map via_view all place ∙ ap (option_map via_view) (sym is)))

  pub no_names_from : None ≡ slice_get all place → names_in_lef (drop place (vias_view all)) ≡ []
  no_names_from is = ap names_in_lef (none_there (vias_view all) place (slice_get-map via_view all place ∙ ap (option_map via_view) (sym is)))
