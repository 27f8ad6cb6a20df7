-- `judge::answer::say_name` meets what it calls: the name that it prints is printable.
-- Assumes nothing.
use Rattle.judge.proofs.Named.{named-printable}
use Rattle.judge.proofs.answer.say_name.Goals as goal

pub say_printable-requires : goal.say_printable-requires
say_printable-requires g c = search named-printable
