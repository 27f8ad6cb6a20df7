-- A choice as the struct that callers get.
-- Assumes nothing.
use Rattle.classes.specs.Representative.{Choice as Chosen}
use Rattle.representatives.specs.declared.Choice.{Choice}

abbrev pub choice_shown : Chosen → Choice
choice_shown x = record { which = x.which; length = x.length }
