-- One net is told by few statements.
use Rattle.std.proofs.Common.{◌≡◌, ◌∙◌, ℕ, false, List, [], ◌∷◌, filter, map, None, refl, ap}
use Rattle.form_meanings.specs.Words.{first}
use Rattle.form_meanings.specs.Firsts.{with_all}
use Rattle.def_grammar.specs.Records.{Record, end_section, entry, in_properties, top, units_of}
use Rattle.def_grammar.specs.Top.{end_design, extension, floor, header, kept, properties, units}
use Rattle.lef_grammar.specs.Library.{Library}
use Rattle.design_rules.specs.Boxes.{scale, units_or_1}
use Rattle.connection_rules.specs.NetParts.{Net, net_named, net_names}
use Rattle.net_laws.specs.NetsTold.{is_common}
use Rattle.net_laws.specs.OneNet.{IsNetTold, OneNetIsTold, TellNet}
use Rattle.net_laws.proofs.NetNames.{wired_names}
use Rattle.net_laws.proofs.Selecting.{selected_alike}
use Rattle.net_laws.proofs.ToldNets.{same_net}

no_units : (r : Record) → is_common r ≡ false → units_of r ≡ None
no_units (top (units n)) h = absurd (cc)
no_units (top end_design) h = refl
no_units (top properties) h = refl
no_units (top (extension ws)) h = refl
no_units (top (floor f)) h = refl
no_units (top (header s n)) h = refl
no_units (top (kept w ws)) h = refl
no_units (entry e) h = refl
no_units (in_properties p) h = refl
no_units (end_section s) h = refl

module _ (library : Library) where
  pub same_scale : (a b : List Record) → filter is_common a ≡ filter is_common b → scale a ≡ scale b
  same_scale a b same = ap (λ (ns : List (List ℕ)). units_or_1 (first ns)) (selected_alike is_common units_of no_units a b same)

  module _ (some design : List Record) (net : List ℕ) (tell : TellNet some design net) where
    told_names : net_names library some (scale some) ≡ net ∷ []
    unfolding Rattle.form_meanings.specs.Firsts.with_all
    told_names = ap (λ (ns : List (List ℕ)). with_all (λ (n : List ℕ). n) [] ns) (wired_names library some (scale some) some) ∙ tell.only

    pub told : IsNetTold library some design net
    told =
        let scales = same_scale some design tell.agree.common in
        record {
          same_scale = scales;
          nets =
              ap (map (net_named library some (scale some))) told_names
              ∙ ap (λ (n : Net). n ∷ []) (same_net library some design (scale some) net tell.agree ∙ ap (λ (u : ℕ). net_named library design u net) scales);
        }

pub one_net_is_told : OneNetIsTold
one_net_is_told library some design net tell = told library some design net tell
