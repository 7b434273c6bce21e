use Rattle.std.proofs.Common.{◌≡◌, ◌∙◌, [], ◌∷◌, ◌++◌, List, ℕ, ap, map, refl, subst, sym}
use Rattle.std.proofs.lemmas.List.{map-append}
use Rattle.std.proofs.lemmas.Slice.Eq.{bytes_eq-Decides}
use Rattle.followed_nets.specs.Lacking.{Lacks, LackTheSame}
use Rattle.followed_nets.specs.ToldViews.{told_view}
use Rattle.named_shapes.specs.Named.{named}
use Rattle.followed_nets.proofs.LackingLemmas.{none_lacks, one_lacks}
use Rattle.followed_nets.proofs.changed_shapes.push_changed.Goals.{then-eq+in_ok-take_off_same, else-eq}
use Rattle.followed_nets.proofs.changed_shapes.push_changed.Goals as goal

pub returns : goal.returns
returns g c =
    let gone = map told_view c.args.changed.now.gone.items in
    let come = map told_view c.args.changed.now.come.items in
    let out = told_view c.args.out in
    let put = told_view c.args.put in
    let more_gone = ap (map told_view) c.in_ok-push.ensures.items ∙ map-append told_view c.args.changed.now.gone.items (c.if-eq.out ∷ []) in
    let more_come = ap (map told_view) c.in_ok-push-2.ensures.items ∙ map-append told_view c.args.changed.now.come.items (c.if-eq.put ∷ []) in
    let both : LackTheSame (gone ++ told_view c.if-eq.out ∷ []) (come ++ told_view c.if-eq.put ∷ []) (out ∷ gone) (put ∷ come) =
    elim c.if-eq.branch [
      | then-eq+in_ok-take_off_same w ↦
          let same = w.in_ok-take_off_same.ensures in
          let name = (bytes_eq-Decides out.name put.name).0 (rw (c.as_slice.ensures.value, c.as_slice-2.ensures.value) at (sym w.if-eq.ensures)) in
          let stay = map (named out.name) same.0 in
          let goes = one_lacks out (told_view c.if-eq.out) gone same.0 (ap (λ (t : _). t.name.items) (sym w.out-is)) (ap (λ (t : _). t.lines) (sym w.out-is)) (rw (w.out-is) same.1) in
          let comes = one_lacks put (told_view c.if-eq.put) come same.0 (ap (λ (t : _). t.name.items) (sym w.put-is)) (ap (λ (t : _). t.lines) (sym w.put-is)) (rw (w.put-is) same.2) in
          (stay, goes, subst (λ (n : List ℕ). Lacks (come ++ told_view c.if-eq.put ∷ []) (put ∷ come) (map (named n) same.0)) (sym name) comes)
      | else-eq w ↦ ([], rw (w.out-is) (none_lacks out gone), rw (w.put-is) (none_lacks put come))
    ] in
    rw (more_gone, more_come) both
