-- The statements on the rule for adding.
use mathlib.Core.Path.{refl}
use Rattle.table_rules.proofs.KeepsLaws.{table_parts}
use Rattle.table_rules.specs.NameTable.{is_noop}
use Rattle.add_rule.specs.OldRule.{old_noop}
use Rattle.add_rule.specs.AddRule.{VersionsNew, RulesAgree}
use Rattle.add_rule.proofs.VersionLaws.{above_new, old_same}
use Rattle.add_rule.proofs.RuleLaws.{same_as}
use Rattle.add_rule.proofs.StepLaws.{all_new, steps_told}

pub versions_new : VersionsNew
versions_new = record { above_all = λ t v h. above_new t v (table_parts t h); all_new = all_new; steps_told = steps_told }

pub rules_agree : RulesAgree
rules_agree = record {
  same_noops = λ t op h. old_same t op (table_parts t h);
  in_force = same_as is_noop (λ t op p h. refl);
  as_before = same_as old_noop old_same;
}
