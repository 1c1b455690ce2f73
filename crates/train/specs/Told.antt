-- What the code's train says.
use Rattle.consist.specs.Train as consist
use Rattle.consist.specs.Lent.{tallied}
use Rattle.train.specs.declared.Train.{Train}

abbrev pub train_told : Train → consist.Train
train_told t = tallied t.sums t.cars
