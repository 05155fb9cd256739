use Rattle.std.proofs.Common.{◌&&◌, ltb, refl, ◌∙◌, rules, tests}
use Rattle.std.specs.List.{list_all}
use Rattle.std.proofs.lemmas.Iterator.{YieldsList-from_slice}
use Rattle.std.proofs.lemmas.Iterator.Search.{all_from_yields_List}
use Rattle.std.proofs.lemmas.List.Recursion.{same_from_clauses}
use Rattle.forms.specs.Rules.{all_below}
use Rattle.forms.proofs.form.fill.all_below.Goals as goal

pub returns : goal.returns
returns c =
    all_from_yields_List (λ x. ltb x c.args.limit) _ _ _ c.all.ensures.ran (YieldsList-from_slice c.args.items.now cc) (λ x b q k. search (rules, tests))
    ∙ same_from_clauses (list_all (λ x. ltb x c.args.limit)) (all_below c.args.limit) (λ x r. ltb x c.args.limit && r) refl (λ _ _. refl) (λ _ _. refl) c.args.items.now
