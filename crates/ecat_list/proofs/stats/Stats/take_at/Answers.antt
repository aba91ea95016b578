use Rattle.std.proofs.Common.{◌≡◌, refl, sym, ◌∙◌, subst}
use Rattle.std.proofs.lemmas.Option.{slice_get_within}
use Rattle.indexmap.proofs.CallerLemmas.{updates-with_value_at, index_map_len-with_value_at}
use Rattle.ecat_list.specs.Stats.{IsGroup}
use Rattle.ecat_list.specs.declared.group.Group.{Group}
use Rattle.ecat_list.proofs.StatsLemmas as stats
use Rattle.ecat_list.proofs.stats.Stats.take_at.Goals as goal

pub pair_mut-known-requires : goal.pair_mut-known-requires
pair_mut-known-requires c = slice_get_within _ _ _ c.requires.stands

pub returns : goal.returns
returns c = λ all h.
    let s = c.args.self.now in
    let w = c.take.new.self in
    let same : c.requires.group ≡ c.pair_mut-known.result.1.now =
    stats.same_group _ _ _ _ (sym c.requires.stands ∙ c.pair_mut-known.ensures.value) in
    stats.told_again all c.args.passed.now s _ h w
    (updates-with_value_at s.groups c.args.place w stats.key_laws c.pair_mut-known.ensures.unique _ _
    c.requires.stands).0
    c.requires.group c.requires.has refl (index_map_len-with_value_at s.groups c.args.place w)
    (λ xs t. c.take.ensures xs (subst (λ (x : Group). IsGroup xs x) same t))
