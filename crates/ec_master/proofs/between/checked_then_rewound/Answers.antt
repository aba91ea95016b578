use Rattle.ec_master.proofs.BetweenLemmas as lemmas
use Rattle.ec_master.proofs.between.checked_then_rewound.Goals as goal

pub returns-clause-rewound : goal.returns-clause-rewound
returns-clause-rewound c = lemmas.rewound_accepted

pub returns-clause-begun : goal.returns-clause-begun
returns-clause-begun c = lemmas.begun_accepted

pub returns-clause-expected_rewound : goal.returns-clause-expected_rewound
returns-clause-expected_rewound c = lemmas.rewound_expected

pub returns-clause-expected_begun : goal.returns-clause-expected_begun
returns-clause-expected_begun c = lemmas.begun_expected
