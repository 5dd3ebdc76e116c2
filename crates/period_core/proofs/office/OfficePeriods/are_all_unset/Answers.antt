use Rattle.std.proofs.Common.{◌≡◌, true, Bool, Option, None, Some, refl, sym, ap, ◌∙◌}
use Rattle.std.proofs.lemmas.List.Sums.{AllPass-from_list_all, list_all-from_AllPass}
use Rattle.std.specs.{List.list_all, Prelude.is_none}
use Rattle.period_core.specs.{declared.key_type.KeyType.KeyType, Office.set_in, Period.Period}
use Rattle.period_core.proofs.Types.{each, types}
use Rattle.period_core.proofs.office.OfficePeriods.are_all_unset.Goals as goal

none_so : (o : Option Period) → is_none o ≡ true → o ≡ None
none_so None is = refl
none_so (Some p) is = absurd cc

pub returns : goal.returns
returns c =
    let check : KeyType → Bool = λ kind. is_none (set_in c.args.self.now kind) in
    let checked : c.are_unset_of.result ≡ list_all check types = c.are_unset_of.ensures in (
      λ is kind. none_so (set_in c.args.self.now kind)
          (each (λ kind. check kind ≡ true) (AllPass-from_list_all check types (sym checked ∙ is)) kind),
      λ none. checked ∙ list_all-from_AllPass check types (λ i other within. ap is_none (none _)),
    )
