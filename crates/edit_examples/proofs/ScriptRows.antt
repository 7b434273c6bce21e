-- Worked examples of the lines of a script that ask for edits and for measures, by computing.
use Rattle.std.specs.Prelude.{[], ◌∷◌, map, Some, None, Ok, Err, codes, pos, neg_ℤ}
use Rattle.std.proofs.Common.{◌≡◌, refl}
use Rattle.design_model.specs.declared.number.NumFault.TheVariants.{Form, Range}
use Rattle.design_model.specs.Units.{whole}
use Rattle.edit_rules.specs.ComponentEdits.{remaster_as, unplace_it}
use Rattle.edit_rules.specs.Edits.{of_component, of_net, of_section}
use Rattle.edit_rules.specs.NetEdits.{connect_to, disconnect_from, route_by, unroute_all}
use Rattle.edit_rules.specs.Runs.{design_edit}
use Rattle.edit_rules.specs.Script.{ask, bad, box_of, density_of, length_of, make, order_of, place_density_of, total_length}
use Rattle.edit_rules.specs.SectionEdits.{add_blockage, add_component, remove_component}

edits : (order_of (codes "unplace u1") ≡ make (design_edit (of_component (codes "u1") unplace_it)))
    × (order_of (codes " remaster\tu1  INV ") ≡ make (design_edit (of_component (codes "u1") (remaster_as (codes "INV")))))
    × (order_of (codes "add u9 INV") ≡ make (design_edit (of_section (add_component (codes "u9") (codes "INV")))))
    × (order_of (codes "remove u9") ≡ make (design_edit (of_section (remove_component (codes "u9")))))
    × (order_of (codes "connect n PIN p") ≡ make (design_edit (of_net (codes "n") (connect_to (codes "PIN") (codes "p")))))
    × (order_of (codes "disconnect n c p") ≡ make (design_edit (of_net (codes "n") (disconnect_from (codes "c") (codes "p")))))
    × (order_of (codes "unroute n") ≡ make (design_edit (of_net (codes "n") unroute_all)))
unfolding whole
edits = (refl, refl, refl, refl, refl, refl, refl)

-- wiring goes from its first byte to the line's end
wiring : (order_of (codes "route n \t + ROUTED met1  ( 0 0 ) ") ≡ make (design_edit (of_net (codes "n") (route_by (codes "+ ROUTED met1  ( 0 0 ) "))))) × (order_of (codes "route n ") ≡ bad) × (order_of (codes "route") ≡ bad)
unfolding whole
wiring = (refl, refl, refl)

-- with a layer or without; a word that is no number counts as out of range
blocks : (order_of (codes "block +1 007 -0 2") ≡ make (design_edit (of_section (add_blockage None (pos 1) (pos 7) (pos 0) (pos 2)))))
    × (order_of (codes "block met1 0 0 x -10") ≡ make (design_edit (of_section (add_blockage (Some (codes "met1")) (pos 0) (pos 0) (pos 2147483648) (neg_ℤ (pos 10))))))
    × (order_of (codes "block 0 0 1") ≡ bad) × (order_of (codes "block a 0 0 1 1 1") ≡ bad)
unfolding whole
blocks = (refl, refl, refl, refl)

measures : (order_of (codes "length") ≡ ask total_length) × (order_of (codes "length n") ≡ ask (length_of (codes "n"))) × (order_of (codes "box n") ≡ ask (box_of (codes "n")))
    × (order_of (codes "cell +0 x met1") ≡ ask (density_of (Ok (pos 0)) (Err Form) (codes "met1"))) × (order_of (codes "pcell -1 2147483648") ≡ ask (place_density_of (Ok (neg_ℤ (pos 1))) (Err Range)))
unfolding whole
measures = (refl, refl, refl, refl, refl)

wrong_counts : map order_of (codes "unplace" ∷ codes "unplace a b" ∷ codes "add a" ∷ codes "remove" ∷ codes "remaster a" ∷ codes "connect a b" ∷ codes "disconnect a b c d" ∷ codes "unroute"
    ∷ codes "length a b" ∷ codes "box" ∷ codes "cell 0 0" ∷ codes "pcell 0" ∷ []) ≡ bad ∷ bad ∷ bad ∷ bad ∷ bad ∷ bad ∷ bad ∷ bad ∷ bad ∷ bad ∷ bad ∷ bad ∷ []
unfolding whole
wrong_counts = refl
