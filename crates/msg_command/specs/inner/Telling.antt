-- What a private function promises.
use Rattle.msg_command.specs.declared.words.WordFault.{WordFault}
use Rattle.msg_command.specs.declared.words.WordFault.TheVariants as word

-- it is help
abbrev pub IsHelp : WordFault → Type 0
IsHelp (word.Help text) = Unit {0}
IsHelp word.Bad = ⊥
IsHelp word.NoMemory = ⊥
